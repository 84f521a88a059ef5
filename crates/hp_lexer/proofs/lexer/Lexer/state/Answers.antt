use Rattle.hp_lexer.proofs.lexer.Lexer.state.Goals as goal

pub returns : goal.returns
returns c = c.copy.ensures
