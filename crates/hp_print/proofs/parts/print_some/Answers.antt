use Rattle.hp_print.proofs.GoingOn.{on_then}
use Rattle.hp_print.proofs.parts.print_some.Goals as goal

pub returns-then-not-print_next-clause-printed : goal.returns-then-not-print_next-clause-printed
returns-then-not-print_next-clause-printed c = on_then _ _ _ _ _ _ _ c.loop-printing.invariant.printed c.print_next.ensures.printed

pub loop-printing-preserved : goal.loop-printing-preserved
loop-printing-preserved c = record {
  ready = c.print_next.ensures.ready;
  printed = on_then _ _ _ _ _ _ _ c.loop-printing.invariant.printed c.print_next.ensures.printed;
}
