use Rattle.std.proofs.Common.{◌≡◌, ◌≤◌, drop, length}
use Rattle.hp_control.specs.Walks.{cleared_by}
use Rattle.hp_merge.proofs.settling.rest_from.Given as goal

abbrev pub invariant-loop-cut : goal.invariant-loop-cut
invariant-loop-cut l = (l.from ≤ l.rest) × (l.rest ≤ length l.list) × (drop l.rest l.list ≡ cleared_by l._cut (drop l.from l.list))
