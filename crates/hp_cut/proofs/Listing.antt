-- Listed places that break no rule cut the text lawfully.
use Rattle.std.proofs.Common.{◌≡◌, ℕ, zero, suc, ◌+◌, ◌<◌, ◌≤◌, true, false, IsTrue, arith, add-one, Option, None, List, ◌∷◌, length, get_or}
use Rattle.std.specs.Prelude.{All, slice_index}
use Rattle.std.proofs.lemmas.Bool.Decides.{nat_tests}
use Rattle.std.proofs.lemmas.List.{get_or_default}
use Rattle.hp_cut.specs.Places.{is_start, AreLawful}
use Rattle.hp_cut.specs.Refusals.{falls, passes_end, splits, first_index}
use Rattle.hp_cut.proofs.Firsts.{within-none}

above : (places : List ℕ) (k : ℕ) → falls places k ≡ false → slice_index (0 ∷ places) k < slice_index (0 ∷ places) (k + 1)
above places k fails = rw add-one (grind (arith, nat_tests))

inside : (text places : List ℕ) (k : ℕ) → passes_end text places k ≡ false → slice_index places k < length text
inside text places k fails = grind (arith, nat_tests)

whole : (text places : List ℕ) (k : ℕ) → splits text places k ≡ false → is_start text (slice_index places k) ≡ true
whole text places k fails = grind (arith, nat_tests)

pub listing-lawful : (text places : List ℕ) → first_index (falls places) places ≡ None → first_index (passes_end text places) places ≡ None → length places ≤ 4095 → AreLawful places (length text)
listing-lawful text places rise ends few = record {
  rising = λ k h. above places k (within-none _ _ _ rise k (omega arith) (omega arith));
  within = λ k d h. rw (get_or_default places k d 0 h) (inside text places k (within-none _ _ _ ends k (omega arith) h));
  few = few;
}

pub listing-starts : (text places : List ℕ) → first_index (splits text places) places ≡ None → All (λ place. IsTrue (is_start text place)) places
listing-starts text places starts k d h = rw (get_or_default places k d 0 h) (whole text places k (within-none _ _ _ starts k (omega arith) h))
