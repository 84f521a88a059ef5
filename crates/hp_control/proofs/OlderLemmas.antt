-- A valid state that fits is one that may stand below.
use Rattle.std.proofs.Common.{◌≡◌, ℕ, ◌<◌, ◌≤◌, List, [], ◌∷◌, true, false, length, map, arith}
use Rattle.std.proofs.Math.Dec.{eqb}
use Rattle.std.specs.List.{AllByRecursion, IsDistinct, list_any}
use Rattle.std.proofs.lemmas.Bool.{eqb-true, ne_eqb, or_cases}
use Rattle.std.proofs.lemmas.List.{length-map}
use Rattle.std.proofs.lemmas.Map.Steps.{length-le_from_distinct_below}
use Rattle.std.proofs.Common.{inl, inr}
use Rattle.hp_control.specs.declared.element.OpenElement.{OpenElement}
use Rattle.hp_control.specs.States.{ControlState, AreIds, IsNew, IsValid, Fits}
use Rattle.hp_control.specs.Apply.{IsOlder}

all_apart : (x : ℕ) (xs : List ℕ) → IsNew x xs → AllByRecursion (λ y. eqb x y ≡ false) xs
all_apart x [] h = tt
all_apart x (y ∷ ys) h = (ne_eqb x y h.0, all_apart x ys h.1)

distinct : (low next : ℕ) (xs : List ℕ) → AreIds low next xs → IsDistinct eqb xs
unfolding IsDistinct
distinct low next [] h = tt
distinct low next (x ∷ xs) h = (all_apart x xs h.2, distinct low next xs h.3)

below : (low next q : ℕ) (xs : List ℕ) → AreIds low next xs → list_any (eqb q) xs ≡ true → q < next
below low next q [] h m = absurd (cc)
below low next q (x ∷ xs) h m =
    elim (or_cases (eqb q x) (list_any (eqb q) xs) m) [
      | inl e ↦ let same : q ≡ x = eqb-true q x e in omega (arith, h.1)
      | inr e ↦ below low next q xs h.3 e
    ]

-- so many ids need as many numbers
ids_few : (low next : ℕ) (xs : List ℕ) → AreIds low next xs → length xs ≤ next
ids_few low next xs h = length-le_from_distinct_below xs next (distinct low next xs h) (λ q. below low next q xs h)

pub valid_older : (s : ControlState) → IsValid s → Fits s → IsOlder s
valid_older s v f =
    let few : length (map (λ (e : OpenElement). e.id) s.stack) ≤ s.next = ids_few 0 s.next (map (λ (e : OpenElement). e.id) s.stack) v.stack_ids in
    let same : length (map (λ (e : OpenElement). e.id) s.stack) ≡ length s.stack = length-map s.stack (λ (e : OpenElement). e.id) in
    record {
      short = omega (arith, f.ids, few, same);
      next = f.ids;
      entries = f.entries;
      stack_ids = v.stack_ids;
      list_ids = v.list_ids;
      form = v.form;
      pending = v.pending;
    }
