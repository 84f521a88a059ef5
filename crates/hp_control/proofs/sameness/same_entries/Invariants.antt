use Rattle.std.proofs.Common.{◌≡◌, take}
use Rattle.hp_control.proofs.sameness.same_entries.Given as goal

abbrev pub invariant-loop-depth : goal.invariant-loop-depth
invariant-loop-depth l = take l.depth l.list ≡ take l.depth l.other
