use Rattle.hp_fragment.proofs.Handling.{Going}
use Rattle.hp_fragment.specs.Known.{stage_of}
use Rattle.hp_fragment.proofs.known.Parsing+Nothing.handle_last.Given as goal

abbrev pub invariant-loop-token : goal.invariant-loop-token
invariant-loop-token l =
    (goal.iterator-loop-token).can_next l.token-iterator ×
    (goal.iterator-loop-token).is_finite l.token-iterator ×
    Going (stage_of l.fn.self) (stage_of l.self) l.fn.tokens l.token-iterator
