-- What is written of the elements of a list, one after the other, each with its place.
use Rattle.std.proofs.Common.{◌≡◌, ℕ, ◌+◌, ◌<◌, ◌≤◌, ap, ◌∙◌, arith, List, [], ◌∷◌, ◌++◌, length, get_or, take}
use Rattle.std.specs.List.{enumerate_from, flat_map}
use Rattle.std.proofs.lemmas.List.{flat_map_more, take_all, take_more}
use Rattle.std.proofs.lemmas.List.FromFn.{get_or-enumerate_from, length-enumerate_from}

module _ {X : Type 0} where
  -- what is written of the first i elements, and then of the next one
  pub one_more : (f : ℕ × X → List ℕ) (xs : List X) (i : ℕ) (x : X) (before : List ℕ) → i < length xs
      → (before ++ flat_map f (take i (enumerate_from 0 xs))) ++ f (i, get_or xs i x) ≡ before ++ flat_map f (take (i + 1) (enumerate_from 0 xs))
  one_more f xs i x before lt =
      let within : i < length (enumerate_from 0 xs) = omega (arith, length-enumerate_from 0 xs) in
      let next : get_or (enumerate_from 0 xs) i (0, x) ≡ (i, get_or xs i x) = get_or-enumerate_from 0 xs i (0, x) lt ∙ ap (λ k. (k, get_or xs i x)) (omega arith) in
      rw (take_more (enumerate_from 0 xs) i (0, x) within) (rw next (flat_map_more f before (take i (enumerate_from 0 xs)) (i, get_or xs i x)))

  -- all elements
  pub all_taken : (xs : List X) (i : ℕ) → length xs ≤ i → take i (enumerate_from 0 xs) ≡ enumerate_from 0 xs
  all_taken xs i le = take_all i (enumerate_from 0 xs) (omega (arith, length-enumerate_from 0 xs))
