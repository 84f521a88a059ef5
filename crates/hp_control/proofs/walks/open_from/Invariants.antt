use Rattle.std.proofs.Common.{◌≡◌, ◌+◌, ◌-◌, drop}
use Rattle.std.specs.Option.{option_map}
use Rattle.hp_control.specs.Walks.{open_at}
use Rattle.hp_control.proofs.walks.open_from.Given as goal

abbrev pub invariant-loop-at : goal.invariant-loop-at
invariant-loop-at l = option_map (λ k. (l.at - l.depth) + k) (open_at l.id (drop l.at l.stack)) ≡ open_at l.id (drop l.depth l.stack)
