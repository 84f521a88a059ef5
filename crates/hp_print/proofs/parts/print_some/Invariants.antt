use Rattle.std.specs.Prelude.{Some}
use Rattle.hp_print.specs.Parts.{IsReady, PrintsOn}
use Rattle.hp_print.specs.Stack.{todo}
use Rattle.hp_print.proofs.parts.print_some.Given as goal

-- some was printed, and the rest is still to come
abbrev pub invariant-loop-printing : goal.invariant-loop-printing
invariant-loop-printing l = record {
  ready : IsReady l.tree l.printing;
  printed : PrintsOn l.tree.branches l.initial.printing l.printing (Some l.initial.text.bytes.items, l.initial.text.faults) (Some l.text.bytes.items, l.text.faults);
}

abbrev pub decreases-loop-printing : goal.decreases-loop-printing
decreases-loop-printing l = todo l.tree.branches l.printing.marks.items
