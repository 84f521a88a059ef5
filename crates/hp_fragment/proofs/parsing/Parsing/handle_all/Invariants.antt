use Rattle.hp_fragment.proofs.Handling.{Going}
use Rattle.hp_fragment.specs.Reading.{stage}
use Rattle.hp_fragment.proofs.parsing.Parsing.handle_all.Given as goal

abbrev pub invariant-loop-token : goal.invariant-loop-token
invariant-loop-token g l =
    (goal.iterator-loop-token g).can_next l.token-iterator ×
    (goal.iterator-loop-token g).is_finite l.token-iterator ×
    Going (stage g.B.Below.heard l.fn.self) (stage g.B.Below.heard l.self) l.fn.tokens l.token-iterator
