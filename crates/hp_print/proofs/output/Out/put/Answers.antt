use Rattle.hp_print.proofs.Pieces.{failed, gathers}
use Rattle.hp_print.proofs.output.Out.put.Goals as goal

pub returns-then-not-append : goal.returns-then-not-append
returns-then-not-append g c = rw (c.in-Gathered.is, ← c.append.ensures.kept c.if-not-append.true) c.put_beyond.ensures

pub returns-else-not-append : goal.returns-else-not-append
returns-else-not-append g c = rw c.in-Gathered.is (gathers c.in-Gathered.gathered c.append.new.self c.in-Gathered.written _ _ (c.append.ensures.whole c.if-not-append.false))

pub returns-in-Failed : goal.returns-in-Failed
returns-in-Failed g c = rw c.in-Failed.is (failed c.in-Failed.taken _ _)
