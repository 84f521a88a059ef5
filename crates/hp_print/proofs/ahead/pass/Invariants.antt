use Rattle.std.specs.Vec.{vec_capacity}
use Rattle.hp_print.specs.Parts.{AreRoomy}
use Rattle.hp_print.proofs.ahead.pass.Given as goal

-- the marks are in the tree
abbrev pub invariant-loop : goal.invariant-loop
invariant-loop l = AreRoomy l.tree l.marks.items (vec_capacity l.marks)
