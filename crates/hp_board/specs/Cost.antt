-- How many steps the judgement of the front chunk costs at most.
use Rattle.std.specs.Prelude.{ℕ}
use Rattle.hp_merge.specs.Cost.{check_cost, cost_of, join_cost}
use Rattle.hp_board.specs.Desk.{Desk, slot_at}
use Rattle.hp_board.specs.declared.slot.Slot.{Slot}
use Rattle.hp_board.specs.declared.slot.Slot.TheVariants as slot

-- the check of the posted fragment
abbrev pub look_cost : Slot → ℕ
look_cost (slot.Posted fragment) = check_cost fragment
look_cost _ = 0

-- its join
abbrev pub commit_cost : Slot → ℕ
commit_cost (slot.Posted fragment) = join_cost fragment
commit_cost _ = 0

-- both
abbrev pub judging_cost : Slot → ℕ
judging_cost (slot.Posted fragment) = cost_of fragment
judging_cost _ = 0

-- what the front chunk costs; nothing where it isn't posted
abbrev pub advance_cost : Desk → ℕ
advance_cost desk = judging_cost (slot_at desk desk.done)
