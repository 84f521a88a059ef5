use Rattle.std.proofs.Common.{◌≡◌, ◌∷◌, length, get_or, List, ℕ}
use Rattle.hp_cut.specs.Places.{first_within}
use Rattle.hp_cut.specs.Refusals.{falls}
use Rattle.hp_cut.proofs.listed.first_not_rising.Given as goal

-- the index is the one among those that are left
pub record Passed (places : List ℕ) (before index : ℕ) : Type 0 where
  pub before_is : before ≡ get_or (0 ∷ places) index 0
  pub first : first_within (falls places) index (length places) ≡ first_within (falls places) 0 (length places)

abbrev pub invariant-loop-index : goal.invariant-loop-index
invariant-loop-index l = Passed l.places l.before l.index
