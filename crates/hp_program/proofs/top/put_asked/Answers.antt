use Rattle.std.proofs.Common.{refl, sym}
use Rattle.hp_program.proofs.Answered.{as_form, wanting_form}
use Rattle.hp_program.proofs.top.put_asked.Goals as goal

pub returns-in-Ok-clause-answer : goal.returns-in-Ok-clause-answer
returns-in-Ok-clause-answer g c = as_form _ _ _ _ _ _ _ (sym c.in-Ok.ensures.ok) c.put_page.ensures.answer

pub returns-in-Err-Malformed-clause-answer : goal.returns-in-Err-Malformed-clause-answer
returns-in-Err-Malformed-clause-answer g c = as_form _ _ _ _ _ _ _ (sym (c.in-Err-Malformed.ensures.malformed c.in-Err-Malformed.field-0-is)) refl

pub returns-in-Err-NoMemory-clause-answer : goal.returns-in-Err-NoMemory-clause-answer
returns-in-Err-NoMemory-clause-answer g c = wanting_form _ _ _ _
