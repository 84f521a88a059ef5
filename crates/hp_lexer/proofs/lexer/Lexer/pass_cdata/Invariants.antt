use Rattle.std.proofs.Common.{◌≡◌}
use Rattle.hp_lexer.specs.Running.{Passed}
use Rattle.hp_lexer.proofs.lexer.Lexer.pass_cdata.Given as goal

abbrev pub invariant-loop-turn : goal.invariant-loop-turn
invariant-loop-turn l = Passed l._turn l.fn.self.lex l.fn.input l.self.lex l.input × (l.self.names ≡ l.fn.self.names) × (l.self.rested ≡ l.fn.self.rested)
