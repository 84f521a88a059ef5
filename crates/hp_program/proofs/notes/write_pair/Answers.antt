use Rattle.hp_program.proofs.Noted.{carried_on, cut_short}
use Rattle.hp_program.proofs.notes.write_pair.Goals as goal

pub returns-in-Ok : goal.returns-in-Ok
returns-in-Ok g c = carried_on c.args.first.now c.args.second.now _ _ _ _ _ _ c.in-Ok.ensures.whole c.in-Ok.ensures.no_fault c.write_text.ensures

pub returns-in-Err : goal.returns-in-Err
returns-in-Err g c = cut_short c.args.first.now c.args.second.now c.in-Err.field-0.taken _ _ _ _ c.in-Err.ensures.proper c.in-Err.ensures.part c.in-Err.ensures.failed
