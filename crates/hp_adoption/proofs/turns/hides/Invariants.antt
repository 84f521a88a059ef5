use Rattle.std.proofs.Common.{◌≡◌, drop, take}
use Rattle.hp_control.specs.Adoption.{hides}
use Rattle.hp_adoption.proofs.turns.hides.Given as goal

abbrev pub invariant-loop-above : goal.invariant-loop-above
invariant-loop-above l = hides (drop l.above (take l.depth l.stack)) ≡ hides (take l.depth l.stack)
