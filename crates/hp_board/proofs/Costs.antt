-- What a judgement costs.
use Rattle.std.proofs.Common.{◌+◌, ◌≤◌, arith}
use Rattle.hp_board.specs.Cost.{commit_cost, judging_cost, look_cost}
use Rattle.hp_board.specs.declared.slot.Slot.{Slot}
use Rattle.hp_board.specs.declared.slot.Slot.TheVariants as slot

-- a look and a join
pub look_and_join : (s : Slot) → look_cost s + commit_cost s ≤ judging_cost s
look_and_join slot.Unclaimed = omega arith
look_and_join (slot.Claimed w) = omega arith
look_and_join (slot.Posted f) = omega arith
look_and_join slot.Again = omega arith
look_and_join (slot.AgainClaimed w) = omega arith
look_and_join slot.Done = omega arith
