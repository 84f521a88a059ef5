use Rattle.std.proofs.Common.{◌+◌, ◌≤◌, take}
use Rattle.hp_control.specs.Holds.{Holds}
use Rattle.hp_merge.proofs.checking.first_false.Given as goal

abbrev pub invariant-loop-place : goal.invariant-loop-place
invariant-loop-place g l = Holds (take l.place l.kept) l.control × (l.steps ≤ l.fn.steps + l.place)
