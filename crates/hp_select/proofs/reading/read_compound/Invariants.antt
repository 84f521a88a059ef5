use Rattle.std.proofs.Common.{◌≡◌, length}
use Rattle.hp_select.specs.Grammar.{compound_at}
use Rattle.hp_select.proofs.Compounds.{joined}
use Rattle.hp_select.proofs.reading.read_compound.Given as goal

-- what was read, with what is read behind it
abbrev pub invariant-loop-compound : goal.invariant-loop-compound
invariant-loop-compound l = joined l.compound l.left ≡ compound_at l.text

abbrev pub decreases-loop-compound : goal.decreases-loop-compound
decreases-loop-compound l = length l.left
