use Rattle.hp_program.proofs.Answered.{of_silence, of_written}
use Rattle.hp_program.proofs.output.put_printed.Goals as goal

pub returns-clause-written : goal.returns-clause-written
returns-clause-written g c = rw c.ended.ensures (of_written _ _ c.write_tree_by-written.result c.args.report c.write_tree_by-written.ensures.whole c.write_tree_by-written.ensures.part c.write_tree_by-written.ensures.failed)

pub returns-clause-nothing : goal.returns-clause-nothing
returns-clause-nothing g c = rw c.ended.ensures (λ done fault. c.write_tree_by-written.ensures.nothing (of_silence c.write_tree_by-written.result c.args.report done fault))
