-- None of the chunks so far is Unclaimed.
use Rattle.std.proofs.Common.{◌≡◌, true, map, take}
use Rattle.hp_board.specs.Machine.{is_unclaimed, none}
use Rattle.hp_board.specs.Desk.{status_of}
use Rattle.hp_board.proofs.slot.first_unclaimed.Given as goal

abbrev pub invariant-loop-chunk : goal.invariant-loop-chunk
invariant-loop-chunk l = none is_unclaimed (take l.chunk (map status_of l.slots)) ≡ true
