-- Where chunks begin and end.
use Rattle.std.proofs.Common.{◌≡◌, ◌+◌, ◌<◌, ◌≤◌, ℕ, zero, suc, List, [], ◌∷◌, ◌++◌, length, get_or, refl, sym, ap, ◌∙◌, arith, inl, inr, add-one}
use Rattle.std.specs.Str.{IsCharBoundary, IsUtf8}
use Rattle.std.proofs.lemmas.Bool.{cases_lt}
use Rattle.std.proofs.Math.Seq.{get_or-append_seam}
use Rattle.hp_cut.specs.Places.{AreLawful, Cutting, IsOf, ends}
use Rattle.hp_cut.proofs.Ends.{end-boundary, end-rises}
use Rattle.hp_board.specs.Machine.{end_of, start_of}

-- a later chunk begins no earlier
pub start-rises : (text : List ℕ) (cuts : Cutting) (i j : ℕ) → AreLawful cuts.places cuts.text_length → i ≤ j → j ≤ length cuts.places + 1 → start_of cuts i ≤ start_of cuts j
start-rises text cuts i zero lawful low high = let e : i ≡ 0 = omega arith in rw e (omega arith)
start-rises text cuts i (suc j) lawful low high =
    elim (cases_lt i (suc j)) [
      | inl less ↦
          let before = start-rises text cuts i j lawful (omega arith) (omega arith) in
          let one : start_of cuts j ≤ start_of cuts (j + 1) = end-rises text cuts j lawful (omega arith) in
          rw (← add-one) (omega (arith, before, one))
      | inr same ↦ let e : i ≡ suc j = omega arith in rw e (omega arith)
    ]

-- the last one ends where the text does
pub last-end : (cuts : Cutting) (k : ℕ) → k ≡ length cuts.places → end_of cuts k ≡ cuts.text_length
last-end cuts k e = rw e (rw add-one (get_or-append_seam cuts.places cuts.text_length [] 0))

pub start-place : (text : List ℕ) (cuts : Cutting) (k : ℕ) → IsUtf8 text → IsOf text cuts → k < length cuts.places + 2 → IsCharBoundary text (start_of cuts k)
start-place text cuts k utf8 is small = end-boundary text cuts k utf8 is small

pub end-place : (text : List ℕ) (cuts : Cutting) (k : ℕ) → IsUtf8 text → IsOf text cuts → k < length cuts.places + 1 → IsCharBoundary text (end_of cuts k)
end-place text cuts k utf8 is small = end-boundary text cuts (k + 1) utf8 is (omega arith)

-- each chunk ends within the text
pub end-within : (text : List ℕ) (cuts : Cutting) (k : ℕ) → IsUtf8 text → IsOf text cuts → k < length cuts.places + 1 → end_of cuts k ≤ length text
end-within text cuts k utf8 is small = (end-place text cuts k utf8 is small).0
