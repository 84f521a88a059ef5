use Rattle.std.proofs.Common.{length}
use Rattle.hp_lex_tags.specs.Straight.{ValueGrows}
use Rattle.hp_lex_tags.proofs.straight.read_references.Given as goal

abbrev pub invariant-parts : goal.invariant-parts
invariant-parts g l = ValueGrows l.fn.names l.fn.state l.fn.value l.fn.input l.value l.input

abbrev pub decreases-parts : goal.decreases-parts
decreases-parts g l = length l.input.text
