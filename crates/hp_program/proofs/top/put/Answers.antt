use Rattle.std.proofs.Common.{Some, ap, sym}
use Rattle.hp_program.proofs.Answered.{as_asked}
use Rattle.hp_program.proofs.top.put.Goals as goal

pub returns-in-Page-clause-answer : goal.returns-in-Page-clause-answer
returns-in-Page-clause-answer g c = as_asked _ _ _ _ _ _ (ap Some (sym c.in-Page.is)) c.put_asked.ensures.answer

pub returns-in-Make-clause-answer : goal.returns-in-Make-clause-answer
returns-in-Make-clause-answer g c = as_asked _ _ _ _ _ _ (ap Some (sym c.in-Make.is)) c.make.ensures.answer

pub returns-in-Drill-clause-answer : goal.returns-in-Drill-clause-answer
returns-in-Drill-clause-answer g c = as_asked _ _ _ _ _ _ (ap Some (sym c.in-Drill.is)) c.drill.ensures.answer
