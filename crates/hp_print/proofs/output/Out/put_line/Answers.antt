use Rattle.hp_print.proofs.Pieces.{failed, gathers}
use Rattle.hp_print.proofs.output.Out.put_line.Goals as goal

pub returns-then-not-append_line : goal.returns-then-not-append_line
returns-then-not-append_line g c = rw (c.in-Gathered.is, ← c.append_line.ensures.kept c.if-not-append_line.true) c.put_line_beyond.ensures

pub returns-else-not-append_line : goal.returns-else-not-append_line
returns-else-not-append_line g c = rw c.in-Gathered.is (gathers c.in-Gathered.gathered c.append_line.new.self c.in-Gathered.written _ _ (c.append_line.ensures.whole c.if-not-append_line.false))

pub returns-in-Failed : goal.returns-in-Failed
returns-in-Failed g c = rw c.in-Failed.is (failed c.in-Failed.taken _ _)
