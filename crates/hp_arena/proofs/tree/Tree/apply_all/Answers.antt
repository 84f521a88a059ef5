use Rattle.std.proofs.Common.{arith}
use Rattle.hp_arena.proofs.Grown.{grown_on, room-next}
use Rattle.hp_arena.proofs.tree.Tree.apply_all.Goals as goal

pub make-requires : goal.make-requires
make-requires c =
    room-next _ _ c.loop-edit.edits c.loop-edit.edit-index c.edit-item.result _ _ c.loop-edit.invariant (omega arith)

pub loop-edit-preserved : goal.loop-edit-preserved
loop-edit-preserved c =
    grown_on _ _ c.loop-edit.edits c.loop-edit.edit-index c.edit-item.result _ _ _ _ _ c.loop-edit.invariant (omega arith) c.make.ensures.branches c.make.ensures.spare
