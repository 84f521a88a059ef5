use Rattle.std.proofs.Common.{◌≡◌, length}
use Rattle.hp_select.specs.Grammar.{selector_of}
use Rattle.hp_select.proofs.Compounds.{all_steps, with_steps}
use Rattle.hp_select.proofs.reading.read_steps.Given as goal

-- what was read, with what is read behind it
abbrev pub invariant-loop-steps : goal.invariant-loop-steps
invariant-loop-steps l = with_steps l.steps (all_steps l.combinator l.left) ≡ selector_of l.text

abbrev pub decreases-loop-steps : goal.decreases-loop-steps
decreases-loop-steps l = length l.left
