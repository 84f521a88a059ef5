use Rattle.std.proofs.Common.{◌≡◌, ◌++◌, ℕ, List}
use Rattle.std.specs.Prelude.{encode_utf8_all}
use Rattle.std.specs.List.{concat}
use Rattle.hp_print.specs.Out.{Prints}
use Rattle.hp_print.proofs.items.print_runs.Given as goal

-- the runs so far were printed, and the others are left
abbrev pub invariant-loop-run : goal.invariant-loop-run
invariant-loop-run g l = (done : List ℕ) × Prints l.initial.out l.out (g.K.Sink.taken l.initial.sink, g.K.Sink.faults l.initial.sink) (g.K.Sink.taken l.sink, g.K.Sink.faults l.sink) done × (done ++ encode_utf8_all (concat l.run-iterator) ≡ encode_utf8_all (concat l.runs))
