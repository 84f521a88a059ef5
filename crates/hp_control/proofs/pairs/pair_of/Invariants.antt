use Rattle.hp_control.specs.Guessing.{sought}
use Rattle.hp_control.proofs.Once.{IsLookedFrom}
use Rattle.hp_control.proofs.pairs.pair_of.Given as goal

abbrev pub invariant-loop-place : goal.invariant-loop-place
invariant-loop-place l = IsLookedFrom l.kept l.places (sought l.question) l.hash l.place

abbrev pub decreases-loop-place : goal.decreases-loop-place
decreases-loop-place l = l.place
