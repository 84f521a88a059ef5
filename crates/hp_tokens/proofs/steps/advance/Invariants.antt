use Rattle.hp_tokens.specs.Ranks.{weight}
use Rattle.hp_tokens.specs.Advancing.{lexing, Along}
use Rattle.hp_tokens.proofs.steps.advance.Given as goal

abbrev pub invariant-moves : goal.invariant-moves
invariant-moves g l = Along (g.L.Lexes.rules l.lexer) g.L.Lexes.here l.fn.state l.fn.input l.fn.rested l.fn.tokens l.state l.input l.rested l.tokens l.emitted

abbrev pub decreases-moves : goal.decreases-moves
decreases-moves g l = weight (lexing l.state l.input l.rested)
