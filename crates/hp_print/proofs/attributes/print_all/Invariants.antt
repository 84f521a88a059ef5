use Rattle.std.proofs.Common.{◌≡◌, ◌++◌, ℕ, List, drop}
use Rattle.hp_print.specs.Out.{Prints}
use Rattle.hp_print.specs.Print.{attribute_lines}
use Rattle.hp_print.specs.Shown.{attributes_of}
use Rattle.hp_print.proofs.attributes.print_all.Given as goal

-- the attributes so far were printed, and the others are left
abbrev pub invariant-loop-index : goal.invariant-loop-index
invariant-loop-index g l = (done : List ℕ) × Prints l.initial.out l.out (g.K.Sink.taken l.initial.sink, g.K.Sink.faults l.initial.sink) (g.K.Sink.taken l.sink, g.K.Sink.faults l.sink) done × (done ++ attribute_lines l.depth (attributes_of (drop l.index l.attributes)) ≡ attribute_lines l.depth (attributes_of l.attributes))
