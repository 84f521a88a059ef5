use Rattle.std.proofs.Common.{drop}
use Rattle.hp_arena.proofs.Grown.{Grows}
use Rattle.hp_arena.proofs.tree.Tree.apply_all.Given as goal

abbrev pub invariant-loop-edit : goal.invariant-loop-edit
invariant-loop-edit l = Grows l.fn.self.branches l.fn.edits (drop l.edit-index l.edits) l.self.branches l.self.spare
