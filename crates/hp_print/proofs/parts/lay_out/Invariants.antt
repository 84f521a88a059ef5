use Rattle.std.specs.List.{All}
use Rattle.std.specs.Vec.{vec_capacity}
use Rattle.hp_print.specs.Parts.{AreRoomy, IsPart}
use Rattle.hp_print.proofs.parts.lay_out.Given as goal

-- the marks and the parts stay in order
abbrev pub invariant-loop-k : goal.invariant-loop-k
invariant-loop-k l = AreRoomy l.tree l.ahead.items (vec_capacity l.ahead) × All (IsPart l.tree) l.parts
