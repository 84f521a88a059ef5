use Rattle.std.proofs.Common.{◌≡◌, drop}
use Rattle.hp_lex_markup.proofs.words.drop_front.Given as goal

abbrev pub invariant-loop-turn : goal.invariant-loop-turn
invariant-loop-turn l = l.text ≡ drop l._turn l.fn.text
