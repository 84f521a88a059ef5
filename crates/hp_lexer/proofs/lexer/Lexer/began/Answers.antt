use Rattle.hp_lexer.proofs.lexer.Lexer.began.Goals as goal

pub returns : goal.returns
returns c = c.saturating_sub.ensures
