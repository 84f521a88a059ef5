use Rattle.std.proofs.Common.{◌≤◌, length}
use Rattle.std.specs.List.{All}
use Rattle.std.specs.Vec.{vec_capacity}
use Rattle.hp_print.specs.Parts.{IsPart, IsReady, PrintsOn}
use Rattle.hp_print.proofs.parts.print_rounds.Given as goal

-- some was printed, and the rest is still to come
abbrev pub invariant-loop : goal.invariant-loop
invariant-loop g l = record {
  ready : IsReady l.tree l.printing;
  room : length l.tree.branches ≤ vec_capacity l.ahead;
  parts : All (IsPart l.tree) l.parts;
  printed : PrintsOn l.tree.branches l.initial.printing l.printing (g.K.Sink.taken l.initial.sink, g.K.Sink.faults l.initial.sink) (g.K.Sink.taken l.sink, g.K.Sink.faults l.sink);
}
