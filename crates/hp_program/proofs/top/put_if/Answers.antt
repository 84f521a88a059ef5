use Rattle.std.proofs.Common.{None, refl, sym}
use Rattle.hp_program.proofs.Answered.{as_asked}
use Rattle.hp_program.proofs.top.put_if.Goals as goal

pub returns-in-Some-clause-answer : goal.returns-in-Some-clause-answer
returns-in-Some-clause-answer g c = as_asked _ _ _ _ _ _ (sym c.in-Some.is) c.put.ensures.answer

pub returns-in-None-clause-answer : goal.returns-in-None-clause-answer
returns-in-None-clause-answer g c = as_asked None _ _ _ _ _ (sym c.in-None.is) refl
