use Rattle.hp_print.proofs.Pieces.{broke_past, failed, gathers, prints_then, wrote_past}
use Rattle.hp_print.proofs.output.Out.put_beyond.Goals as goal

pub returns-in-Err : goal.returns-in-Err
returns-in-Err g c =
    let empty = rw c.in-Gathered.is at c.flush.ensures.empty in
    prints_then _ _ _ _ _ _ _ _ c.flush.ensures.printed
    (rw c.in-Gathered.is (broke_past c.in-Gathered.gathered c.in-Gathered.written c.saturating_add-taken.result _ _ c.args.piece.now c.in-Err.fault.taken empty c.in-Err.ensures.proper c.in-Err.ensures.part c.saturating_add-taken.ensures c.in-Err.ensures.failed))

pub returns-in-Ok : goal.returns-in-Ok
returns-in-Ok g c =
    let empty = rw c.in-Gathered.is at c.flush.ensures.empty in
    let kept = c.append.ensures.kept c.if-not-append.true in
    prints_then _ _ _ _ _ _ _ _ c.flush.ensures.printed
    (rw (c.in-Gathered.is, kept) (wrote_past c.in-Gathered.gathered c.in-Gathered.written c.saturating_add.result _ _ c.args.piece.now empty c.in-Ok.ensures.whole c.in-Ok.ensures.no_fault c.saturating_add.ensures))

pub returns-else-not-append : goal.returns-else-not-append
returns-else-not-append g c =
    prints_then _ _ _ _ _ _ _ _ c.flush.ensures.printed (rw c.in-Gathered.is (gathers c.in-Gathered.gathered c.append.new.self c.in-Gathered.written _ _ (c.append.ensures.whole c.if-not-append.false)))

pub returns-in-Failed : goal.returns-in-Failed
returns-in-Failed g c = prints_then _ _ _ _ _ _ _ _ c.flush.ensures.printed (rw c.in-Failed.is (failed c.in-Failed.taken _ _))
