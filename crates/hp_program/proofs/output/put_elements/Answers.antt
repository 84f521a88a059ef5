use Rattle.hp_program.proofs.Answered.{of_silence, of_written}
use Rattle.hp_program.proofs.output.put_elements.Goals as goal

pub returns-clause-written : goal.returns-clause-written
returns-clause-written g c = rw c.ended.ensures (of_written _ _ c.write_selected-written.result c.args.report c.write_selected-written.ensures.whole c.write_selected-written.ensures.part c.write_selected-written.ensures.failed)

pub returns-clause-nothing : goal.returns-clause-nothing
returns-clause-nothing g c = rw c.ended.ensures (λ done fault. c.write_selected-written.ensures.nothing (of_silence c.write_selected-written.result c.args.report done fault))
