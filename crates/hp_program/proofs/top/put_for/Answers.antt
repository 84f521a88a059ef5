use Rattle.hp_program.proofs.Answered.{as_asked, wanting}
use Rattle.hp_program.proofs.top.put_for.Goals as goal

pub returns-in-Ok-clause-answer : goal.returns-in-Ok-clause-answer
returns-in-Ok-clause-answer g c = as_asked _ _ _ _ _ _ c.in-Ok.ensures.setting c.put_if.ensures.answer

pub returns-in-Err-clause-answer : goal.returns-in-Err-clause-answer
returns-in-Err-clause-answer g c = wanting _ _ _
