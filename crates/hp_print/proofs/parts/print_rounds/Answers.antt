use Rattle.hp_print.proofs.GoingOn.{on_then}
use Rattle.hp_print.proofs.parts.print_rounds.Goals as goal

pub returns-then-not-print_round-clause-printed : goal.returns-then-not-print_round-clause-printed
returns-then-not-print_round-clause-printed g c = on_then _ _ _ _ _ _ _ c.loop.invariant.printed c.print_round.ensures.printed

pub loop-preserved : goal.loop-preserved
loop-preserved g c = record {
  ready = c.print_round.ensures.ready;
  room = c.print_round.ensures.room;
  parts = c.print_round.ensures.parts;
  printed = on_then _ _ _ _ _ _ _ c.loop.invariant.printed c.print_round.ensures.printed;
}
