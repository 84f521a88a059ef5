-- Pieces that stand one after the other, and the list that they make.
use Rattle.std.proofs.Common.{◌≡◌, ℕ, zero, suc, ◌+◌, ◌-◌, ◌<◌, ◌≤◌, leb, true, false, List, [], ◌∷◌, ◌++◌, length, get_or, take, set, flat_map, arith, refl, ap, sym, ◌∙◌, subst}
use Rattle.std.proofs.Math.Seq.{get_or-append_seam, take-append_seam}
use Rattle.std.proofs.lemmas.List.{length-append, get_or_append_left, get_or-append_right, set-append_left, set-append_right}
use Rattle.std.proofs.lemmas.List.Concat.{get_or-flat_map}
use Rattle.std.proofs.lemmas.List.Folds.{length-flat_map-take}
use Rattle.std.proofs.lemmas.Bool.Decides.{nat_tests}
use Rattle.std.specs.List.Sorted.{IsNonDecreasingBy, IsPartitionPoint}

module _ {P B : Type 0} (start : P → ℕ) (items : P → List B) where
  -- each piece starts where the one before it ends
  abbrev pub IsRow : ℕ → List P → Type 0
  IsRow from [] = Unit {0}
  IsRow from (p ∷ ps) = (start p ≡ from) × IsRow (from + length (items p)) ps

  -- where a piece starts
  pub start-row : (from : ℕ) (ps : List P) → IsRow from ps → (k : ℕ) → k < length ps → (e : P) → start (get_or ps k e) ≡ from + length (flat_map items (take k ps))
  start-row from [] row k h e = absurd (omega arith)
  start-row from (p ∷ ps) row zero h e = row.0 ∙ omega arith
  start-row from (p ∷ ps) row (suc k) h e =
      let rest = start-row (from + length (items p)) ps row.1 k (omega arith) e in
      omega (arith, rest, length-append (items p) (flat_map items (take k ps)))

  -- no piece starts before the first
  pub row-from : (from : ℕ) (ps : List P) → IsRow from ps → (k : ℕ) → k < length ps → (e : P) → from ≤ start (get_or ps k e)
  row-from from ps row k h e = omega (arith, start-row from ps row k h e)

  pub row-rises : (from : ℕ) (ps : List P) → IsRow from ps → IsNonDecreasingBy start ps
  row-rises from [] row i j e le h = absurd (omega arith)
  row-rises from (p ∷ ps) row zero j e le h = omega (arith, row.0, row-from from (p ∷ ps) row j h e)
  row-rises from (p ∷ ps) row (suc i) zero e le h = absurd (omega arith)
  row-rises from (p ∷ ps) row (suc i) (suc j) e le h = row-rises (from + length (items p)) ps row.1 i j e (omega arith) (omega arith)

  -- the piece before the first one that starts past a place holds that place
  pub row-home : (from : ℕ) (ps : List P) → IsRow from ps → (at k : ℕ) → k ≤ length ps → IsPartitionPoint (λ p. leb (start p) at ≡ true) (λ p. leb (start p) at ≡ false) ps k
      → from ≤ at → at < from + length (flat_map items ps) → (0 < k) × ((e : P) → (start (get_or ps (k - 1) e) ≤ at) × (at < start (get_or ps (k - 1) e) + length (items (get_or ps (k - 1) e))))
  row-home from [] row at k le point low high = absurd (omega arith)
  row-home from (p ∷ ps) row at zero le point low high =
      let past : leb (start p) at ≡ false = point.1 0 p (omega arith) (omega arith) in
      absurd (grind (arith, nat_tests, past, row.0))
  row-home from (p ∷ []) row at (suc zero) le point low high = (
    omega arith,
    λ e.
        let long = length-append (items p) [] in (omega (arith, row.0), omega (arith, row.0, long)),
  )
  row-home from (p ∷ q ∷ ps) row at (suc zero) le point low high = (
    omega arith,
    λ e.
        let past : leb (start q) at ≡ false = point.1 1 e (omega arith) (omega arith) in
        (omega (arith, row.0), grind (arith, nat_tests, past, row.0, row.1.0)),
  )
  row-home from (p ∷ []) row at (suc (suc k)) le point low high = absurd (omega arith)
  row-home from (p ∷ q ∷ ps) row at (suc (suc k)) le point low high =
      let here : leb (start q) at ≡ true = point.0 1 q (omega arith) (omega arith) in
      let rest = row-home (from + length (items p)) (q ∷ ps) row.1 at (suc k) (omega arith)
      (λ j e g h. point.0 (suc j) e (omega arith) (omega arith), λ j e g h. point.1 (suc j) e (omega arith) (omega arith))
      (grind (arith, nat_tests, here, row.1.0)) (omega (arith, high, length-append (items p) (flat_map items (q ∷ ps)))) in
      let one : suc (suc k) - 1 ≡ suc k = omega arith in
      let other : suc k - 1 ≡ k = omega arith in
      (omega arith, λ e. rw one (rw other at (rest.1 e)))

  -- what comes first of a row is one
  pub row-front : (from : ℕ) (ps qs : List P) → IsRow from (ps ++ qs) → IsRow from ps
  row-front from [] qs row = tt
  row-front from (p ∷ ps) qs row = (row.0, row-front (from + length (items p)) ps qs row.1)

  -- the last piece starts where the items of the others end
  pub row-last : (ps : List P) (last : P) → IsRow 0 (ps ++ last ∷ []) → start last ≡ length (flat_map items ps)
  row-last ps last row =
      let at = start-row 0 (ps ++ last ∷ []) row (length ps) (omega (arith, length-append ps (last ∷ []))) last in
      let none : 0 + length (flat_map items ps) ≡ length (flat_map items ps) = omega arith in
      ap start (sym (get_or-append_seam ps last [] last)) ∙ at ∙ ap (λ qs. 0 + length (flat_map items qs)) (take-append_seam ps (last ∷ [])) ∙ none

  -- where a piece that was read starts
  pub own-start : (ps qs : List P) (k : ℕ) (p : P) → IsRow 0 (ps ++ qs) → k < length ps → p ≡ get_or ps k p → start p ≡ length (flat_map items (take k ps))
  own-start ps qs k p row h held =
      let none : 0 + length (flat_map items (take k ps)) ≡ length (flat_map items (take k ps)) = omega arith in
      ap start held ∙ start-row 0 ps (row-front 0 ps qs row) k h p ∙ none

  pub read-last : (ps : List P) (last : P) → IsRow 0 (ps ++ last ∷ []) → (at : ℕ) (d : B) → start last ≤ at → get_or (flat_map items ps ++ items last) at d ≡ get_or (items last) (at - start last) d
  read-last ps last row at d le = get_or-append_right (flat_map items ps) (items last) (start last) at d (sym (row-last ps last row)) le

  -- a place past the start of the last piece is in it
  pub within-last : (ps : List P) (last : P) → IsRow 0 (ps ++ last ∷ []) → (at : ℕ) → at < length (flat_map items ps ++ items last) → at < start last + length (items last)
  within-last ps last row at h = omega (arith, row-last ps last row, length-append (flat_map items ps) (items last))

  -- and one before it in the others
  pub before-last : (ps : List P) (last : P) → IsRow 0 (ps ++ last ∷ []) → (at : ℕ) → at < start last → at < length (flat_map items ps)
  before-last ps last row at h = omega (arith, row-last ps last row)

  pub read-part : (ps : List P) (last : P) (k at : ℕ) (p : P) (d : B) → IsRow 0 (ps ++ last ∷ []) → k < length ps → p ≡ get_or ps k p → start p ≤ at → at < start p + length (items p)
      → get_or (flat_map items ps ++ items last) at d ≡ get_or (items p) (at - start p) d
  read-part ps last k at p d row h held from to =
      let own = own-start ps (last ∷ []) k p row h held in
      let place : length (flat_map items (take k ps)) + (at - start p) ≡ at = omega (arith, own) in
      let inner : at - start p < length (items (get_or ps k p)) = subst (λ q. at - start p < length (items q)) held (omega arith) in
      let short : at < length (flat_map items ps) = omega (arith, own, length-flat_map-take items ps k p h) in
      get_or_append_left (flat_map items ps) (items last) d at short ∙ ap (λ i. get_or (flat_map items ps) i d) (sym place) ∙ get_or-flat_map items ps k (at - start p) p d h inner
      ∙ ap (λ q. get_or (items q) (at - start p) d) (sym held)

  pub write-last : (ps : List P) (last : P) → IsRow 0 (ps ++ last ∷ []) → (at : ℕ) (x : B) → start last ≤ at → set (flat_map items ps ++ items last) at x ≡ flat_map items ps ++ set (items last) (at - start last) x
  write-last ps last row at x le = set-append_right (flat_map items ps) (items last) (start last) at x (sym (row-last ps last row)) le

  -- an item of a piece is replaced
  piece-set : (ps : List P) (k j : ℕ) (q : P) (x : B) (e : P) → k < length ps → j < length (items (get_or ps k e)) → items q ≡ set (items (get_or ps k e)) j x
      → flat_map items (set ps k q) ≡ set (flat_map items ps) (length (flat_map items (take k ps)) + j) x
  piece-set [] k j q x e h inner is = absurd (omega arith)
  piece-set (p ∷ ps) zero j q x e h inner is =
      let none : j ≡ 0 + j = omega arith in
      ap (λ ys. ys ++ flat_map items ps) is ∙ sym (set-append_left (items p) (flat_map items ps) j x inner) ∙ ap (λ i. set (items p ++ flat_map items ps) i x) none
  piece-set (p ∷ ps) (suc k) j q x e h inner is =
      let long = length-append (items p) (flat_map items (take k ps)) in
      let place : length (flat_map items (take k ps)) + j ≡ length (items p ++ flat_map items (take k ps)) + j - length (items p) = omega (arith, long) in
      ap (λ ys. items p ++ ys) (piece-set ps k j q x e (omega arith) inner is ∙ ap (λ i. set (flat_map items ps) i x) place)
      ∙ sym (set-append_right (items p) (flat_map items ps) (length (items p)) (length (items p ++ flat_map items (take k ps)) + j) x refl (omega (arith, long)))

  pub write-part : (ps : List P) (last : P) (k at : ℕ) (p q : P) (x : B) → IsRow 0 (ps ++ last ∷ []) → k < length ps → p ≡ get_or ps k p → start p ≤ at → at < start p + length (items p)
      → items q ≡ set (items p) (at - start p) x → flat_map items (set ps k q) ++ items last ≡ set (flat_map items ps ++ items last) at x
  write-part ps last k at p q x row h held from to is =
      let own = own-start ps (last ∷ []) k p row h held in
      let place : length (flat_map items (take k ps)) + (at - start p) ≡ at = omega (arith, own) in
      let inner : at - start p < length (items (get_or ps k p)) = subst (λ r. at - start p < length (items r)) held (omega arith) in
      let short : at < length (flat_map items ps) = omega (arith, own, length-flat_map-take items ps k p h) in
      ap (λ ys. ys ++ items last) (piece-set ps k (at - start p) q x p h inner (is ∙ ap (λ r. set (items r) (at - start p) x) held) ∙ ap (λ i. set (flat_map items ps) i x) place)
      ∙ sym (set-append_left (flat_map items ps) (items last) at x short)

  -- a piece is replaced by one with the same items
  pub flat-kept : (ps : List P) (k : ℕ) (q e : P) → items q ≡ items (get_or ps k e) → flat_map items (set ps k q) ≡ flat_map items ps
  flat-kept [] k q e is = refl
  flat-kept (p ∷ ps) zero q e is = ap (λ ys. ys ++ flat_map items ps) is
  flat-kept (p ∷ ps) (suc k) q e is = ap (λ ys. items p ++ ys) (flat-kept ps k q e is)

  -- one item is changed, in the last piece
  pub edit-last : (ps : List P) (last q : P) (at : ℕ) (f : B → B) (d : B) → IsRow 0 (ps ++ last ∷ []) → start last ≤ at
      → items q ≡ set (items last) (at - start last) (f (get_or (items last) (at - start last) d)) → flat_map items ps ++ items q ≡ set (flat_map items ps ++ items last) at (f (get_or (flat_map items ps ++ items last) at d))
  edit-last ps last q at f d row le is =
      ap (λ ys. flat_map items ps ++ ys) is ∙ sym (write-last ps last row at (f (get_or (items last) (at - start last) d)) le)
      ∙ ap (λ x. set (flat_map items ps ++ items last) at (f x)) (sym (read-last ps last row at d le))

  -- and in another
  pub edit-part : (ps : List P) (last : P) (k at : ℕ) (p q : P) (f : B → B) (d : B) → IsRow 0 (ps ++ last ∷ []) → k < length ps → p ≡ get_or ps k p → start p ≤ at → at < start p + length (items p)
      → items q ≡ set (items p) (at - start p) (f (get_or (items p) (at - start p) d)) → flat_map items (set ps k q) ++ items last ≡ set (flat_map items ps ++ items last) at (f (get_or (flat_map items ps ++ items last) at d))
  edit-part ps last k at p q f d row h held from to is =
      write-part ps last k at p q (f (get_or (items p) (at - start p) d)) row h held from to is
      ∙ ap (λ x. set (flat_map items ps ++ items last) at (f x)) (sym (read-part ps last k at p d row h held from to))
