use Rattle.hp_control.proofs.StartLemmas.{start_of, valid_as_start}
use Rattle.hp_control.proofs.control.Control.start.Goals as goal

pub invariant_of-result : goal.invariant_of-result
invariant_of-result c = valid_as_start _ (start_of c.lex_start.ensures c.new.ensures c.new-2.ensures c.new-3.ensures c.new-4.ensures)

pub returns : goal.returns
returns c = start_of c.lex_start.ensures c.new.ensures c.new-2.ensures c.new-3.ensures c.new-4.ensures
