use Rattle.std.proofs.Common.{ap, ◌∙◌}
use Rattle.hp_control.specs.States.{ControlState}
use Rattle.hp_control.specs.Tree.{Tree}
use Rattle.hp_groves.specs.Grafts.{graft}
use Rattle.hp_pieces.specs.declared.exact_parts.States.{States}
use Rattle.hp_merge.proofs.Made.{made_so}
use Rattle.hp_merge.proofs.joining.join_exact.Goals as goal

pub returns-clause-tree : goal.returns-clause-tree
returns-clause-tree g c =
    let same = c.entry.view_is ∙ (ap (λ (b : States). b.entry) c.deref.ensures ∙ c.in_ok-states.ensures.entry) in
    made_so c.args.exact.entry (graft c.args.tree.now.branches c.args.exact.grove) c.graft_exact.new.tree.branches c.make_over-left.new.tree.branches c.args.exact.outer c.in_ok-states.outer _ _
    (c.in_ok-states.ensures.tree ∙ ap (λ (t : Tree). graft t c.args.exact.grove) c.reserve.ensures.branches) c.in_ok-states.ensures.outer
    (ap (λ (s : ControlState). s.stack) same) (ap (λ (s : ControlState). s.next) same)
    c.make_over-left.ensures.tree
