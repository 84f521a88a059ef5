use Rattle.std.proofs.Common.{◌≡◌, ◌++◌, length}
use Rattle.hp_control.proofs.open_elements.OpenElements.lift.Given as goal

abbrev pub invariant-loop-turn : goal.invariant-loop-turn
invariant-loop-turn l = (l.top ++ l.self ≡ l.initial.self) × (length l.top ≡ l._turn)
