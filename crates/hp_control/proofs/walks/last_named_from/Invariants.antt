use Rattle.std.proofs.Common.{◌≡◌, drop}
use Rattle.hp_control.specs.Walks.{last_named}
use Rattle.hp_control.proofs.walks.last_named_from.Given as goal

abbrev pub invariant-loop-at : goal.invariant-loop-at
invariant-loop-at l = last_named l.name (drop l.at l.list) ≡ last_named l.name (drop l.from l.list)
