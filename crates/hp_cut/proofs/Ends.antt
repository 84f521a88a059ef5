-- The ends of chunks rise, and stand at starts of code points or at the text's end.
use Rattle.std.proofs.Common.{◌≡◌, ℕ, zero, suc, ◌+◌, ◌<◌, ◌≤◌, true, IsTrue, refl, inl, inr, arith, add-one, add-zero, List, [], ◌∷◌, ◌++◌, length, length-append, get_or}
use Rattle.std.specs.Prelude.{All, slice_index}
use Rattle.std.specs.Str.{IsCharBoundary, IsUtf8}
use Rattle.std.specs.List.Sorted.{IsStrictlyIncreasing}
use Rattle.std.proofs.lemmas.Bool.Decides.{nat_tests}
use Rattle.std.proofs.lemmas.Bool.{cases_lt}
use Rattle.std.proofs.lemmas.Str.{IsCharBoundary-start, IsCharBoundary-end}
use Rattle.std.proofs.Math.ListN.{get_or-append}
use Rattle.std.proofs.Math.Seq.{get_or-append_seam}
use Rattle.hp_cut.specs.Places.{is_start, AreLawful, Cutting, IsOf, ends}

start_boundary : (text : List ℕ) (place : ℕ) → is_start text place ≡ true → IsCharBoundary text place
start_boundary text place start = (grind (arith, nat_tests), λ lt high. grind (arith, nat_tests))

-- an end after the first is a place or the length
end_inner : (cutting : Cutting) (k : ℕ) → k < length cutting.places → get_or (ends cutting) (suc k) 0 ≡ get_or cutting.places k 0
end_inner cutting k lt = get_or-append cutting.places (cutting.text_length ∷ []) 0 k lt

end_last : (cutting : Cutting) (k : ℕ) → k ≡ length cutting.places → get_or (ends cutting) (suc k) 0 ≡ cutting.text_length
end_last cutting k e = rw e (get_or-append_seam cutting.places cutting.text_length [] 0)

pub end-boundary : (text : List ℕ) (cutting : Cutting) (k : ℕ) → IsUtf8 text → IsOf text cutting → k < length cutting.places + 2 → IsCharBoundary text (get_or (ends cutting) k 0)
end-boundary text cutting zero utf8 is lt = IsCharBoundary-start text utf8
end-boundary text cutting (suc k) utf8 is lt =
    elim (cases_lt k (length cutting.places)) [
      | inl inner ↦ rw (end_inner cutting k inner) (start_boundary text _ (is.at_starts k 0 inner))
      | inr outer ↦ rw (end_last cutting k (omega arith)) (rw is.same_length (IsCharBoundary-end text))
    ]

pub end-rises : (text : List ℕ) (cutting : Cutting) (k : ℕ) → AreLawful cutting.places cutting.text_length → k < length cutting.places + 1 → get_or (ends cutting) k 0 ≤ get_or (ends cutting) (k + 1) 0
end-rises text cutting zero is lt = omega arith
end-rises text cutting (suc k) is lt =
    elim (cases_lt (suc k) (length cutting.places)) [
      | inl inner ↦ rw add-one (rw (end_inner cutting (suc k) inner) (rw (end_inner cutting k (omega arith)) (omega (arith, rw add-one at (is.rising (suc k) (omega arith))))))
      | inr outer ↦ rw add-one (rw (end_last cutting (suc k) (omega arith)) (rw (end_inner cutting k (omega arith)) (omega (arith, is.within k 0 (omega arith)))))
    ]
