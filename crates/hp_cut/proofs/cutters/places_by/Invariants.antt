use Rattle.std.proofs.Common.{◌≡◌, ◌++◌}
use Rattle.hp_cut.proofs.Takes.{left}
use Rattle.hp_cut.proofs.cutters.places_by.Given as goal

-- the cuts so far, and those that are left
abbrev pub invariant-loop-number : goal.invariant-loop-number
invariant-loop-number l = l.places.items ++ left l.cutter l.text l.step l.count l.last l.number ≡ left l.cutter l.text l.step l.count 0 0
