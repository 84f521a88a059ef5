use Rattle.std.proofs.Common.{◌≡◌, drop}
use Rattle.hp_board.proofs.pairs.take_pairs.Given as goal

abbrev pub invariant-loop-turn : goal.invariant-loop-turn
invariant-loop-turn l = l.pairs ≡ drop l._turn l.fn.pairs
