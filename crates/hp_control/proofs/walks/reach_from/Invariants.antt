use Rattle.std.proofs.Common.{◌≡◌, ◌+◌, ◌-◌, drop}
use Rattle.std.specs.Option.{option_map}
use Rattle.hp_control.specs.Walks.{reach}
use Rattle.hp_control.proofs.walks.reach_from.Given as goal

abbrev pub invariant-loop-at : goal.invariant-loop-at
invariant-loop-at l = option_map (λ k. (l.at - l.depth) + k) (reach l.goals l.stops (drop l.at l.stack)) ≡ reach l.goals l.stops (drop l.depth l.stack)
