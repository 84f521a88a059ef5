use Rattle.std.proofs.Common.{◌-◌, length}
use Rattle.hp_lex_tags.proofs.Decimals.{ReadsDigits}
use Rattle.hp_lex_tags.proofs.usual_reference.decimal.Given as goal

abbrev pub invariant-digits : goal.invariant-digits
invariant-digits l = ReadsDigits l.fn.text l.count l.value

abbrev pub decreases-digits : goal.decreases-digits
decreases-digits l = length l.fn.text - l.count
