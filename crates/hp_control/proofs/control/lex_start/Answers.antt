use Rattle.hp_control.proofs.StartLemmas.{lex_of}
use Rattle.hp_control.proofs.control.lex_start.Goals as goal

pub returns : goal.returns
returns c = lex_of c.at_rest-machine.ensures c.new.ensures
