use Rattle.hp_print.specs.Parts.{IsReady, PrintsOn}
use Rattle.hp_print.specs.Stack.{todo}
use Rattle.hp_print.proofs.walk.Printing.print_rest.Given as goal

-- some was printed, and the rest is still to come
abbrev pub invariant-loop-alloc : goal.invariant-loop-alloc
invariant-loop-alloc g l = record {
  ready : IsReady l.tree l.self;
  printed : PrintsOn l.tree.branches l.initial.self l.self (g.K.Sink.taken l.initial.sink, g.K.Sink.faults l.initial.sink) (g.K.Sink.taken l.sink, g.K.Sink.faults l.sink);
}

abbrev pub decreases-loop-alloc : goal.decreases-loop-alloc
decreases-loop-alloc g l = todo l.tree.branches l.self.marks.items
