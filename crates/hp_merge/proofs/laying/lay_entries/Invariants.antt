use Rattle.std.proofs.Common.{◌≡◌, ◌+◌, ◌-◌, ◌≤◌, ◌++◌, map, drop}
use Rattle.hp_control.specs.Apply.{shifted_entry}
use Rattle.hp_merge.proofs.laying.lay_entries.Given as goal

abbrev pub invariant-loop-turn : goal.invariant-loop-turn
invariant-loop-turn g l = (l.list ≡ map (shifted_entry l.next) (drop (l.count - l.turn) l.own) ++ l.initial.list) × (l.steps ≤ l.initial.steps + l.turn)
