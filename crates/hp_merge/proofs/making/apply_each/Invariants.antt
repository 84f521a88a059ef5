use Rattle.std.proofs.Common.{◌≡◌, ◌+◌, drop}
use Rattle.hp_arena.proofs.Grown.{Grows}
use Rattle.hp_merge.proofs.making.apply_each.Given as goal

abbrev pub invariant-loop-edit : goal.invariant-loop-edit
invariant-loop-edit g l = Grows l.fn.tree.branches l.fn.edits (drop l.edit-index l.edits) l.tree.branches l.tree.spare × (l.steps ≡ l.fn.steps + l.edit-index)
