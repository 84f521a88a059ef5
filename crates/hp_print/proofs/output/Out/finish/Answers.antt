use Rattle.hp_print.proofs.Pieces.{finished_part}
use Rattle.hp_print.proofs.output.Out.finish.Goals as goal

pub returns-in-Failed : goal.returns-in-Failed
returns-in-Failed g c = finished_part _ c.in-Failed.taken _ _ (rw c.in-Failed.is at c.flush.ensures.printed)
