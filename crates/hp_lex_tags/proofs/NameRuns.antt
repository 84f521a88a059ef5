-- The end of an attribute's name, found in 16 bytes at once.
use Rattle.std.proofs.Common.{◌≡◌, ℕ, ◌+◌, ◌-◌, ◌<◌, ◌≤◌, Bool, true, false, not, ◌||◌, leb, List, map, length, drop, get_or, Fits, w8, refl, sym, ap, ◌∙◌, subst, arith, inl, inr, length-drop}
use Rattle.std.specs.Prelude.{◌==◌, if◌then◌else◌}
use Rattle.std.specs.Int.{w64, trailing_zeros}
use Rattle.std.specs.List.{prefix_len}
use Rattle.std.proofs.lemmas.Bool.{agree_below_at, cases_lt}
use Rattle.std.proofs.lemmas.List.{get_or-drop}
use Rattle.std.proofs.lemmas.Simd.{length-chunk, first_set_mask_l, run_in_chunk_le, run_in_chunk_fails}
use lib.Lanes.{chunk, mask_l}
use Rattle.hp_tokens.specs.Reading.{PassesFrom}
use Rattle.hp_tokens.specs.Plain.{none_of, attribute_name_stops}
use Rattle.hp_tokens.proofs.Searching.{all_from}

-- the bytes before the first that is low
module _ (xs : List ℕ) (at r m : ℕ) (room : at + 16 ≤ length xs) (fits : (k : ℕ) → Fits w8 (get_or xs k 0))
    (is : m ≡ mask_l (map (λ x. leb x 62) (chunk at 16 xs))) (found : r ≡ (if m == 0 then 16 else trailing_zeros w64 m)) where
  counted : r ≡ prefix_len (λ x. not (leb x 62)) (chunk at 16 xs)
  counted =
      found
      ∙ (ap (λ (n : ℕ). if n == 0 then 16 else trailing_zeros w64 n) is
      ∙ first_set_mask_l (λ x. leb x 62) (chunk at 16 xs) 16 (length-chunk at 16 xs room) (omega arith))

  pub high_within : at + r ≤ length xs
  high_within = omega (arith, room, run_in_chunk_le (λ x. leb x 62) xs at 16 r 0 room counted)

  pub high_pass : (k : ℕ) → at ≤ k → k < at + r → none_of attribute_name_stops (get_or xs k 0) ≡ true
  high_pass k from to =
      sym (ap (λ (b : Bool). b || none_of attribute_name_stops (get_or xs k 0)) (run_in_chunk_fails (λ x. leb x 62) xs at 16 r 0 room counted k from to))
      ∙ agree_below_at (λ x. leb x 62 || none_of attribute_name_stops x) (λ x. true) 256 (get_or xs k 0) refl (fits k).fits

-- one byte more passes
pub pass_more : (p : ℕ → Bool) (xs : List ℕ) (at end : ℕ) → ((k : ℕ) → at ≤ k → k < end → p (get_or xs k 0) ≡ true) → p (get_or xs end 0) ≡ true
    → (k : ℕ) → at ≤ k → k < end + 1 → p (get_or xs k 0) ≡ true
pass_more p xs at end h e k from to =
    let P : ℕ → Type 0 = λ j. p (get_or xs j 0) ≡ true in
    elim (cases_lt k end) [
      | inl early ↦ h k from early
      | inr late ↦ subst P (let same : end ≡ k = omega (arith, late, to) in same) e
    ]

-- the bytes between two places pass, and there the text ends, or a byte that does not
pub passes_between : (p : ℕ → Bool) (xs : List ℕ) (at end : ℕ) → at ≤ end → end ≤ length xs → ((k : ℕ) → at ≤ k → k < end → p (get_or xs k 0) ≡ true)
    → (end < length xs → p (get_or xs end 0) ≡ false) → PassesFrom p xs at (end - at)
passes_between p xs at end order within pass stop =
    let inside : end - at ≤ length (drop at xs) = omega (arith, length-drop at xs, order, within) in
    record {
      within = inside;
      passes = all_from p (end - at) (drop at xs) inside (λ k lt. ap p (get_or-drop at xs k 0) ∙ pass (at + k) (omega arith) (omega (arith, lt, order)));
      end = λ lt.
          ap p (get_or-drop at xs (end - at) 0 ∙ ap (λ (j : ℕ). get_or xs j 0) (let same : at + (end - at) ≡ end = omega (arith, order) in same))
          ∙ stop (omega (arith, lt, length-drop at xs, order));
    }
