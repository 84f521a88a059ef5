use Rattle.std.proofs.Common.{length}
use Rattle.hp_tokens.specs.Advancing.{SameStand}
use Rattle.hp_lex_markup.proofs.words.gather.Given as goal

abbrev pub invariant-reading : goal.invariant-reading
invariant-reading l = SameStand l.fn.state l.fn.input l.state l.input

abbrev pub decreases-reading : goal.decreases-reading
decreases-reading l = length l.input.text
