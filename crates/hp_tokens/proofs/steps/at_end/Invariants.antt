use Rattle.hp_tokens.specs.Ranks.{weight}
use Rattle.hp_tokens.specs.Advancing.{lexing, AlongEnd}
use Rattle.hp_tokens.proofs.steps.at_end.Given as goal

abbrev pub invariant-moves : goal.invariant-moves
invariant-moves g l = AlongEnd (g.L.Lexes.rules l.lexer) l.fn.state l.fn.tokens l.state l.input l.tokens

abbrev pub decreases-moves : goal.decreases-moves
decreases-moves g l = weight (lexing l.state l.input 0)
