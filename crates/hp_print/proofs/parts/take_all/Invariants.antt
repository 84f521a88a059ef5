use Rattle.hp_print.specs.Parts.{IsReady, PrintsOn}
use Rattle.hp_print.proofs.parts.take_all.Given as goal

-- some was printed, and the rest is still to come
abbrev pub invariant-loop-k : goal.invariant-loop-k
invariant-loop-k g l = record {
  ready : IsReady l.tree l.printing;
  printed : PrintsOn l.tree.branches l.initial.printing l.printing (g.K.Sink.taken l.initial.sink, g.K.Sink.faults l.initial.sink) (g.K.Sink.taken l.sink, g.K.Sink.faults l.sink);
}
