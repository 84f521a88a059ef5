use Rattle.std.proofs.Common.{◌≡◌}
use Rattle.hp_control.specs.Foreign.{replaced}
use Rattle.hp_foreign.proofs.ends.replaced.Given as goal

abbrev pub invariant-loop-c : goal.invariant-loop-c
invariant-loop-c l = l.made ≡ replaced l.yielded
