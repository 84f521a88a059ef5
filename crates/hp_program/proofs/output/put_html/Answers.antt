use Rattle.std.proofs.Common.{◌∙◌}
use Rattle.hp_program.proofs.Answered.{of_equal}
use Rattle.hp_program.proofs.output.put_html.Goals as goal

pub returns-in-Ok-clause-written : goal.returns-in-Ok-clause-written
returns-in-Ok-clause-written g c = of_equal c.as_slice.result.now _ c.args.report.items _ c.put_text.result (c.as_slice.ensures.value ∙ c.in-Ok.ensures) c.put_text.ensures.written
