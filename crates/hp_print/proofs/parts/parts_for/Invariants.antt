use Rattle.std.specs.List.{All}
use Rattle.hp_print.specs.Parts.{IsPart}
use Rattle.hp_print.proofs.parts.parts_for.Given as goal

-- all so far are parts
abbrev pub invariant-loop : goal.invariant-loop
invariant-loop l = All (IsPart l.tree) l.parts.items
