use Rattle.std.proofs.Common.{◌≡◌, ◌+◌, ◌-◌, drop}
use Rattle.hp_control.specs.Walks.{run_of}
use Rattle.hp_control.proofs.walks.run_from.Given as goal

abbrev pub invariant-loop-at : goal.invariant-loop-at
invariant-loop-at l = (l.at - l.depth) + run_of l.names (drop l.at l.stack) ≡ run_of l.names (drop l.depth l.stack)
