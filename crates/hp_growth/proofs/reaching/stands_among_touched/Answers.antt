use Rattle.std.proofs.Common.{◌∙◌}
use Rattle.hp_growth.specs.Marking.{children_touched}
use Rattle.hp_growth.proofs.Parents.{any-none, any-parent}
use Rattle.hp_growth.proofs.reaching.stands_among_touched.Goals as goal

pub returns-in-Some : goal.returns-in-Some
returns-in-Some c =
    c.children_touched.ensures ∙ any-parent c.args.grove.now.branches (children_touched c.args.marks.now) c.args.id c.in-Some.parent c.in-Some.ensures.forest c.in-Some.ensures.parent

pub returns-in-None : goal.returns-in-None
returns-in-None c = any-none c.args.grove.now.branches (children_touched c.args.marks.now) c.args.id c.in-None.ensures.parent
