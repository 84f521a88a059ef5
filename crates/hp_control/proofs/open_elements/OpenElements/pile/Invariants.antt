use Rattle.std.proofs.Common.{◌≡◌, ◌++◌, length}
use Rattle.hp_control.proofs.open_elements.OpenElements.pile.Given as goal

abbrev pub invariant-loop-item : goal.invariant-loop-item
invariant-loop-item l = l.rest ++ l.self ≡ l.initial.rest ++ l.initial.self

abbrev pub decreases-loop-item : goal.decreases-loop-item
decreases-loop-item l = length l.rest
