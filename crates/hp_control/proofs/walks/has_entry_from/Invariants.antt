use Rattle.std.proofs.Common.{◌≡◌, drop}
use Rattle.hp_control.specs.Walks.{has_entry}
use Rattle.hp_control.proofs.walks.has_entry_from.Given as goal

abbrev pub invariant-loop-at : goal.invariant-loop-at
invariant-loop-at l = has_entry l.wanted (drop l.at l.list) ≡ has_entry l.wanted (drop l.from l.list)
