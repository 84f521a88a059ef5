use Rattle.std.proofs.Common.{◌≡◌, ◌++◌, ℕ, List}
use Rattle.hp_print.specs.Out.{Prints}
use Rattle.hp_print.specs.Print.{attribute_lines}
use Rattle.hp_print.proofs.attributes.print_unsorted.Given as goal

-- the attributes so far were printed, and the others are left
abbrev pub invariant-loop-attribute : goal.invariant-loop-attribute
invariant-loop-attribute g l = (done : List ℕ) × Prints l.initial.out l.out (g.K.Sink.taken l.initial.sink, g.K.Sink.faults l.initial.sink) (g.K.Sink.taken l.sink, g.K.Sink.faults l.sink) done × (done ++ attribute_lines l.depth l.attribute-iterator ≡ attribute_lines l.depth l.attributes)
