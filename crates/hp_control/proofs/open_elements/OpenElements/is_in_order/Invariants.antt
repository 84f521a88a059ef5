use Rattle.std.proofs.Common.{◌≤◌, ◌-◌, length}
use Rattle.hp_control.proofs.open_elements.OpenElements.is_in_order.Given as goal

abbrev pub invariant-loop-from : goal.invariant-loop-from
invariant-loop-from l = (l.from ≤ l.to) × (l.to ≤ length l.self)

abbrev pub decreases-loop-from : goal.decreases-loop-from
decreases-loop-from l = l.to - l.from
