use Rattle.hp_print.proofs.Pieces.{failed, gathers}
use Rattle.hp_print.proofs.output.Out.put_pair.Goals as goal

pub returns-then-not-append_pair : goal.returns-then-not-append_pair
returns-then-not-append_pair g c = rw (c.in-Gathered.is, ← c.append_pair.ensures.kept c.if-not-append_pair.true) c.put_pair_beyond.ensures

pub returns-else-not-append_pair : goal.returns-else-not-append_pair
returns-else-not-append_pair g c = rw c.in-Gathered.is (gathers c.in-Gathered.gathered c.append_pair.new.self c.in-Gathered.written _ _ (c.append_pair.ensures.whole c.if-not-append_pair.false))

pub returns-in-Failed : goal.returns-in-Failed
returns-in-Failed g c = rw c.in-Failed.is (failed c.in-Failed.taken _ _)
