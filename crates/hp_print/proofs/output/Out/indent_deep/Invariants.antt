use Rattle.std.proofs.Common.{◌+◌, ◌≤◌, ◌-◌, replicate}
use Rattle.hp_print.specs.Out.{Prints}
use Rattle.hp_print.proofs.output.Out.indent_deep.Given as goal

-- as many spaces as aren't left were printed
abbrev pub invariant-loop-left : goal.invariant-loop-left
invariant-loop-left g l = record {
  printed : Prints l.initial.self l.self (g.K.Sink.taken l.initial.sink, g.K.Sink.faults l.initial.sink) (g.K.Sink.taken l.sink, g.K.Sink.faults l.sink) (replicate (l.depth + l.depth - l.left) 32);
  at_most : l.left ≤ l.depth + l.depth;
}

abbrev pub decreases-loop-left : goal.decreases-loop-left
decreases-loop-left g l = l.left
