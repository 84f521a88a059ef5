use Rattle.std.proofs.Common.{arith}
use Rattle.hp_arena.proofs.Grown.{grown_on, room-next}
use Rattle.hp_merge.proofs.making.apply_each.Goals as goal

pub apply_in_place-requires : goal.apply_in_place-requires
apply_in_place-requires g c =
    room-next _ _ c.loop-edit.edits c.loop-edit.edit-index c.edit-item.result _ _ c.loop-edit.invariant.0 (omega arith)

pub loop-edit-preserved : goal.loop-edit-preserved
loop-edit-preserved g c = (
  grown_on _ _ c.loop-edit.edits c.loop-edit.edit-index c.edit-item.result _ _ _ _ _ c.loop-edit.invariant.0 (omega arith) c.apply_in_place.ensures.branches c.apply_in_place.ensures.spare,
  omega (arith, c.loop-edit.invariant.1, c.apply_in_place.ensures.steps),
)
