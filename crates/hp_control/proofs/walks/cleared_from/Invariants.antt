use Rattle.std.proofs.Common.{◌≡◌, ◌≤◌, drop, length}
use Rattle.hp_control.specs.Walks.{cleared_by}
use Rattle.hp_control.proofs.walks.cleared_from.Given as goal

abbrev pub invariant-loop-cut : goal.invariant-loop-cut
invariant-loop-cut l = (l.gone ≤ length l.list) × (drop l.gone l.list ≡ cleared_by l._cut l.list)
