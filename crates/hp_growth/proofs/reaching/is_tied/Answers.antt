use Rattle.std.proofs.Common.{length, sym, ◌∙◌}
use Rattle.std.specs.List.{list_any}
use Rattle.std.proofs.lemmas.Bool.{or_from}
use Rattle.hp_groves.specs.Split.{parents_from}
use Rattle.hp_growth.specs.Marking.{children_touched, parent_touched}
use Rattle.hp_growth.proofs.Parents.{none-whole}
use Rattle.hp_growth.proofs.reaching.is_tied.Goals as goal

pub returns-then-not-any : goal.returns-then-not-any
returns-then-not-any c =
    let marks = c.args.marks.now in
    let t = c.args.grove.now.branches in
    sym (or_from (parent_touched marks c.args.id) (list_any (children_touched marks) (parents_from 0 t c.args.id)) (sym c.parent_touched.ensures ∙ c.if-parent_touched.false)
    (none-whole t (length marks) marks c.args.id c.requires.rooted (c.any.ensures c.if-not-any.true)))
