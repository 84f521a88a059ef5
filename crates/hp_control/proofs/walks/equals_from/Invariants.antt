use Rattle.std.proofs.Common.{◌≡◌, ◌≤◌, ◌+◌, drop}
use Rattle.std.specs.Prelude.{min}
use Rattle.hp_control.specs.Walks.{equals_of}
use Rattle.hp_control.proofs.walks.equals_from.Given as goal

abbrev pub invariant-loop-at : goal.invariant-loop-at
invariant-loop-at l = (l.count ≤ 3) × (min 3 (l.count + equals_of l.tag (drop l.at l.list)) ≡ min 3 (equals_of l.tag (drop l.from l.list)))
