use Rattle.std.proofs.Common.{◌≡◌, ◌++◌, ℕ, List, drop}
use Rattle.std.specs.Vec.{vec_capacity}
use Rattle.hp_print.specs.Elements.{elements_text}
use Rattle.hp_print.specs.Out.{Prints}
use Rattle.hp_print.specs.Stack.{HasRoom}
use Rattle.hp_print.proofs.elements.print_elements.Given as goal

-- the elements so far were printed, and the others are left
abbrev pub invariant-loop-index : goal.invariant-loop-index
invariant-loop-index g l = HasRoom l.tree.branches (vec_capacity l.list)
    × ((done : List ℕ) × Prints l.initial.out l.out (g.K.Sink.taken l.initial.sink, g.K.Sink.faults l.initial.sink) (g.K.Sink.taken l.sink, g.K.Sink.faults l.sink) done × (done ++ elements_text l.tree.branches (drop l.index l.found) ≡ elements_text l.tree.branches l.found))
