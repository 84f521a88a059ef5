use Rattle.std.proofs.Common.{refl, sym}
use Rattle.std.proofs.lemmas.Bool.{true≢false}
use Rattle.hp_program.proofs.Answered.{of_text}
use Rattle.hp_program.proofs.top.put_bytes.Goals as goal

pub returns-in-Ok-clause-answer : goal.returns-in-Ok-clause-answer
returns-in-Ok-clause-answer g c = of_text c.args.asked.now c.args.form.now c.args.bytes.now _ _ _ _ c.in-Ok.ensures.text (record { within = c.requires.limit; utf8 = c.in-Ok.ensures.utf8.0 refl }) c.put_text.ensures.answer

pub returns-in-Err-clause-answer : goal.returns-in-Err-clause-answer
returns-in-Err-clause-answer g c = (record { within = c.requires.limit; broken = λ utf8. true≢false (sym (c.in-Err.ensures.utf8.1 utf8)) }, (c.in-Err.fault.at, c.in-Err.ensures.at, refl))
