-- So many slots are Unclaimed.
use Rattle.std.proofs.Common.{◌≡◌, replicate}
use Rattle.hp_board.specs.declared.slot.Slot.TheVariants as slot
use Rattle.hp_board.proofs.ends.opening_slots.Given as goal

abbrev pub invariant-loop-made : goal.invariant-loop-made
invariant-loop-made l = l.slots.items ≡ replicate l._made slot.Unclaimed
