use Rattle.hp_print.proofs.GoingOn.{on_then}
use Rattle.hp_print.proofs.parts.take_all.Goals as goal

pub returns-then-not-take-clause-printed : goal.returns-then-not-take-clause-printed
returns-then-not-take-clause-printed g c = on_then _ _ _ _ _ _ _ c.loop-k.invariant.printed c.take.ensures.printed

pub loop-k-preserved : goal.loop-k-preserved
loop-k-preserved g c = record {
  ready = c.take.ensures.ready;
  printed = on_then _ _ _ _ _ _ _ c.loop-k.invariant.printed c.take.ensures.printed;
}
