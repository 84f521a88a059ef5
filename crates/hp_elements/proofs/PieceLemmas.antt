-- What a look-up among the pieces of a list gives.
use Rattle.std.proofs.Common.{◌≡◌, ℕ, ◌+◌, ◌-◌, ◌<◌, ◌≤◌, List, [], ◌∷◌, length, get_or, drop, take, Option, None, Some, unwrap_or, zero, suc, Bool, true, false, leb, refl, ap, sym, ◌∙◌, arith, Bor, ◌⊎◌, inl, inr}
use Rattle.std.specs.Prelude.{if◌then◌else◌, slice_range}
use Rattle.std.specs.Slice.{IsGetRangeResult}
use Rattle.std.proofs.lemmas.Bool.{le-leb, lt-leb}
use Rattle.hp_elements.specs.Rules.{pieces}

abbrev piece : {X : Type 0} → List X → ℕ → ℕ → List X
piece xs from to = if leb to (length xs) then slice_range xs from to else []

piece_at : {X : Type 0} (xs : List X) (places : List ℕ) (i : ℕ) → suc i < length places → get_or (pieces xs places) i [] ≡ piece xs (get_or places i 0) (get_or places (suc i) 0)
piece_at xs [] i below = absurd (omega arith)
piece_at xs (from ∷ []) i below = absurd (omega arith)
piece_at xs (from ∷ to ∷ places) zero below = refl
piece_at xs (from ∷ to ∷ places) (suc i) below = piece_at xs (to ∷ places) i (omega arith)

none_at : {X : Type 0} (xs : List X) (places : List ℕ) (i : ℕ) → length places ≤ suc i → get_or (pieces xs places) i [] ≡ []
none_at xs [] i past = refl
none_at xs (from ∷ []) i past = refl
none_at xs (from ∷ to ∷ places) zero past = absurd (omega arith)
none_at xs (from ∷ to ∷ places) (suc i) past = none_at xs (to ∷ places) i (omega arith)

nothing_there : {X : Type 0} (xs : List X) (from to : ℕ) → (to < from) ⊎ (length xs < to) → piece xs from to ≡ []
nothing_there xs from to (inl back) = go (leb to (length xs))
  where
    go : (b : Bool) → (if b then slice_range xs from to else []) ≡ []
    go true = let none : to - from ≡ 0 = omega arith in ap (λ n. take n (drop from xs)) none
    go false = refl
nothing_there xs from to (inr past) = ap (λ b. if b then slice_range xs from to else []) (lt-leb to (length xs) past)

taken : {X : Type 0} (xs : List X) (from to : ℕ) (got : Option (Bor (List X))) (nothing : Bor (List X)) → IsGetRangeResult xs from to got → nothing.now ≡ [] → (unwrap_or got nothing).now ≡ piece xs from to
taken xs from to None nothing looked empty = empty ∙ sym (nothing_there xs from to looked.0)
taken xs from to (Some x) nothing looked empty = looked.0.2 ∙ sym (ap (λ b. if b then slice_range xs from to else []) (le-leb to (length xs) looked.0.1))

-- what stands between the place of a number and the next one is the piece of that number
pub piece_taken : {X : Type 0} (xs : List X) (places : List ℕ) (i at from to : ℕ) (got : Option (Bor (List X))) (nothing : Bor (List X)) → at ≡ i → at + 1 < length places → from ≡ get_or places at 0 → to ≡ get_or places (at + 1) 0 → IsGetRangeResult xs from to got → nothing.now ≡ [] → (unwrap_or got nothing).now ≡ get_or (pieces xs places) i []
piece_taken xs places i at from to got nothing is below begins ends looked empty =
    let next : at + 1 ≡ suc at = omega arith in
    taken xs from to got nothing looked empty
    ∙ (ap (λ n. piece xs n to) begins ∙ ap (λ n. piece xs (get_or places at 0) n) (ends ∙ ap (λ n. get_or places n 0) next))
    ∙ (sym (piece_at xs places at (omega arith)) ∙ ap (λ n. get_or (pieces xs places) n []) is)

-- and past the last piece there is none
pub none_taken : {X : Type 0} (xs : List X) (places : List ℕ) (i at : ℕ) → at ≡ i → length places ≤ at + 1 → [] ≡ get_or (pieces xs places) i []
none_taken xs places i at is past = sym (none_at xs places i (omega arith))
