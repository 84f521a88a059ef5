use Rattle.std.proofs.Common.{◌≡◌, drop}
use Rattle.hp_control.specs.Walks.{cleared}
use Rattle.hp_merge.proofs.settling.next_cut.Given as goal

abbrev pub invariant-loop-at : goal.invariant-loop-at
invariant-loop-at l = cleared (drop l.at l.list) ≡ cleared (drop l.from l.list)
