use Rattle.hp_print.proofs.Pieces.{broke, failed, flushed}
use Rattle.hp_print.proofs.output.Out.flush.Goals as goal

pub returns-in-Ok-clause-printed : goal.returns-in-Ok-clause-printed
returns-in-Ok-clause-printed g c =
    let took = rw c.as_slice-bytes.ensures at c.in-Ok.ensures.whole in
    rw c.in-Gathered.is (flushed c.in-Gathered.gathered c.clear.new.self c.in-Gathered.written c.saturating_add.result _ _ took c.in-Ok.ensures.no_fault c.clear.ensures (rw c.as_slice-bytes.ensures at c.saturating_add.ensures))

pub returns-in-Ok-clause-empty : goal.returns-in-Ok-clause-empty
returns-in-Ok-clause-empty g c = c.clear.ensures

pub returns-in-Err-clause-printed : goal.returns-in-Err-clause-printed
returns-in-Err-clause-printed g c =
    let less = rw c.as_slice-bytes.ensures at c.in-Err.ensures.proper in
    let took = rw c.as_slice-bytes.ensures at c.in-Err.ensures.part in
    rw c.in-Gathered.is (broke c.in-Gathered.gathered c.in-Gathered.written c.saturating_add-taken.result _ _ c.in-Err.fault.taken less took c.saturating_add-taken.ensures c.in-Err.ensures.failed)

pub returns-in-Err-clause-empty : goal.returns-in-Err-clause-empty
returns-in-Err-clause-empty g c = tt

pub returns-in-Failed-clause-printed : goal.returns-in-Failed-clause-printed
returns-in-Failed-clause-printed g c = rw c.in-Failed.is (failed c.in-Failed.taken _ _)

pub returns-in-Failed-clause-empty : goal.returns-in-Failed-clause-empty
returns-in-Failed-clause-empty g c = rw c.in-Failed.is tt
