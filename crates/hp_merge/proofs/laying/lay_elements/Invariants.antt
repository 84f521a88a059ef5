use Rattle.std.proofs.Common.{◌≡◌, ◌+◌, ◌-◌, ◌≤◌, ◌++◌, map, drop}
use Rattle.hp_control.specs.Apply.{shifted}
use Rattle.hp_merge.proofs.laying.lay_elements.Given as goal

abbrev pub invariant-loop-turn : goal.invariant-loop-turn
invariant-loop-turn g l = (l.stack ≡ map (shifted l.next) (drop (l.count - l.turn) l.own) ++ l.initial.stack) × (l.steps ≤ l.initial.steps + l.turn)
