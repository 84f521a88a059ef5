-- What holds of each act of a row holds of the act at a place.
use Rattle.std.proofs.Common.{◌≡◌, ◌<◌, ◌≤◌, ℕ, zero, suc, ◌+◌, true, List, [], ◌∷◌, length, Option, None, Some, slice_get, IfSome, subst, sym, arith, add-zero, zero-add, lt_of_lt_of_le}
use Rattle.std.proofs.lemmas.Bool.{and_parts}
use Rattle.std.proofs.lemmas.Option.{IfSome_then}
use Rattle.hp_elements.specs.Rules.{go_later, goes_later}
use Rattle.hp_elements.specs.declared.act.Act.{Act}
use Rattle.hp_acts.specs.Rows.{most_acts}

later_get : (acts : List Act) (start at : ℕ) → go_later start acts ≡ true → IfSome (slice_get acts at) (λ a. goes_later (start + at) a ≡ true)
later_get [] start at h = tt
later_get (a ∷ acts) start zero h = rw add-zero (and_parts (goes_later start a) (go_later (start + 1) acts) h).0
later_get (a ∷ acts) start (suc at) h =
    let same : start + 1 + at ≡ start + suc at = omega arith in
    subst (λ (n : ℕ). IfSome (slice_get acts at) (λ a. goes_later n a ≡ true)) same (later_get acts (start + 1) at (and_parts (goes_later start a) (go_later (start + 1) acts) h).1)

short_get : {X : Type 0} (xs : List X) (at : ℕ) → IfSome (slice_get xs at) (λ x. at < length xs)
short_get {X} [] at = tt
short_get {X} (x ∷ xs) zero = omega arith
short_get {X} (x ∷ xs) (suc at) = go (slice_get xs at) (short_get xs at)
  where
    go : (o : Option X) → IfSome o (λ x. at < length xs) → IfSome o (λ x. suc at < suc (length xs))
    go None h = tt
    go (Some x) h = omega arith

module _ (acts : List Act) (at : ℕ) (result : Option Act) (is : result ≡ slice_get acts at) where
  pub later_at : go_later 0 acts ≡ true → IfSome result (λ a. goes_later at a ≡ true)
  later_at h =
      let P : Option Act → Type 0 = λ o. IfSome o (λ a. goes_later at a ≡ true) in
      let Q : ℕ → Type 0 = λ n. IfSome (slice_get acts at) (λ a. goes_later n a ≡ true) in
      subst P (sym is) (subst Q (zero-add at) (later_get acts 0 at h))

  pub short_at : length acts ≤ most_acts → IfSome result (λ a. at < most_acts)
  short_at h =
      let P : Option Act → Type 0 = λ o. IfSome o (λ a. at < most_acts) in
      subst P (sym is) (IfSome_then (slice_get acts at) (short_get acts at) (λ x below. lt_of_lt_of_le below h))
