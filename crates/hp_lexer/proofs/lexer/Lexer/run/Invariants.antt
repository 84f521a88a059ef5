use Rattle.std.proofs.Common.{◌≡◌}
use Rattle.hp_tokens.specs.Ranks.{weight}
use Rattle.hp_tokens.specs.Advancing.{lexing}
use Rattle.hp_lexer.proofs.Runs.{Between}
use Rattle.hp_lexer.proofs.lexer.Lexer.run.Given as goal

abbrev pub invariant-moves : goal.invariant-moves
invariant-moves l =
    Between l.fn.self.names l.fn.self.lex l.fn.input l.fn.self.rested l.self.lex l.input l.self.rested l.tokens
    × (l.self.names ≡ l.fn.self.names) × (l.self.asked ≡ l.fn.self.asked)

abbrev pub decreases-moves : goal.decreases-moves
decreases-moves l = weight (lexing l.self.lex l.input l.self.rested)
