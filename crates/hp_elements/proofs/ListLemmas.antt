-- What a call that may fail leaves of a list.
use Rattle.std.proofs.Common.{◌≡◌, ◌≤◌, ◌<◌, ℕ, Bor, Option, Some, None, IfSome, MatchOption, slice_get, refl, List, [], ◌∷◌, ◌++◌, length, cond, Result, Ok, Err, OnOk, OnErr, is_ok, get_or, ap, sym, ◌∙◌, arith}
use Rattle.std.specs.List.{HoldsAt}
use Rattle.std.specs.Option.{option_copied}
use Rattle.std.proofs.lemmas.Option.{slice_get_past, slice_get_read}

-- the items are other ones at an `Ok`, and the same at an `Err`
pub kept : {T R E : Type 0} (r : Result R E) (now more old : List T) → now ≡ cond (is_ok r) more old → OnOk r (now ≡ more) × OnErr r (now ≡ old)
kept (Ok x) now more old e = (e, tt)
kept (Err x) now more old e = (tt, e)

-- the items where they are an array of one
pub only : {T : Type 0} {items array : List T} {first : T} → items ≡ array → length array ≡ 1 → first ≡ get_or array 0 first → items ≡ first ∷ []
only {T} {items} {array} {first} here one stands = here ∙ is_one array first one stands
  where
    is_one : (xs : List T) (x : T) → length xs ≡ 1 → x ≡ get_or xs 0 x → xs ≡ x ∷ []
    is_one [] x one stands = absurd (omega arith)
    is_one (y ∷ []) x one stands = ap (λ z. z ∷ []) (sym stands)
    is_one (y ∷ z ∷ zs) x one stands = absurd (omega arith)

-- a second item stands behind the first
pub second : {T R E : Type 0} (r : Result R E) (now items : List T) (first item : T) → OnOk r (now ≡ first ∷ item ∷ []) → OnErr r (now ≡ first ∷ []) → items ≡ first ∷ []
    → OnOk r (now ≡ items ++ item ∷ []) × OnErr r (now ≡ items)
second r now items first item ok err e = rw e (ok, err)

-- what a look-up in a slice gives
pub looked_up : {T : Type 0} (r : Option (Bor T)) (xs : List T) (at : ℕ) → IfSome r (λ x. x.now ≡ get_or xs at x.now)
    → MatchOption r (length xs ≤ at) (λ x. (at < length xs) × HoldsAt (λ y. x.now ≡ y) xs at) → option_copied r ≡ slice_get xs at
looked_up None xs at value found = sym (slice_get_past xs at found)
looked_up (Some x) xs at value found = sym (slice_get_read xs (length xs) at x.now refl found.0 value)
