use Rattle.std.proofs.Common.{◌≡◌, take, drop}
use Rattle.hp_lex_tags.proofs.named.take_front.Given as goal

abbrev pub invariant-loop-turn : goal.invariant-loop-turn
invariant-loop-turn l = (l.front ≡ take l._turn l.fn.text) × (l.text ≡ drop l._turn l.fn.text)
