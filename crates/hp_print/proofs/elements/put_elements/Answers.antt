use Rattle.hp_print.proofs.Endings.{ended_part, ended_whole}
use Rattle.hp_print.proofs.elements.put_elements.Goals as goal

pub returns-in-Ok : goal.returns-in-Ok
returns-in-Ok g c = ended_whole _ _ _ _ _ _ _ c.in-Ok.is c.print_elements.ensures c.finish.ensures

pub returns-in-Err : goal.returns-in-Err
returns-in-Err g c = ended_part _ _ _ _ _ _ _ _ c.in-Err.is c.print_elements.ensures c.finish.ensures
