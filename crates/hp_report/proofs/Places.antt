-- The places of chunks rise.
use Rattle.std.proofs.Common.{◌≡◌, ℕ, zero, suc, ◌+◌, ◌<◌, ◌≤◌, inl, inr, arith, add-one, List, [], ◌∷◌, ◌++◌, length, get_or}
use Rattle.std.proofs.lemmas.Bool.{cases_lt}
use Rattle.std.proofs.Math.ListN.{get_or-append}
use Rattle.std.proofs.Math.Seq.{get_or-append_seam}
use Rattle.hp_cut.specs.Places.{AreLawful, Cutting, ends}

-- an end after the first is a place or the length
end_inner : (cutting : Cutting) (k : ℕ) → k < length cutting.places → get_or (ends cutting) (suc k) 0 ≡ get_or cutting.places k 0
end_inner cutting k lt = get_or-append cutting.places (cutting.text_length ∷ []) 0 k lt

end_last : (cutting : Cutting) (k : ℕ) → k ≡ length cutting.places → get_or (ends cutting) (suc k) 0 ≡ cutting.text_length
end_last cutting k e = rw e (get_or-append_seam cutting.places cutting.text_length [] 0)

pub end_rises : (cutting : Cutting) (k : ℕ) → AreLawful cutting.places cutting.text_length → k < length cutting.places + 1 → get_or (ends cutting) k 0 ≤ get_or (ends cutting) (k + 1) 0
end_rises cutting zero lawful lt = omega arith
end_rises cutting (suc k) lawful lt =
    elim (cases_lt (suc k) (length cutting.places)) [
      | inl inner ↦ rw add-one (rw (end_inner cutting (suc k) inner) (rw (end_inner cutting k (omega arith)) (omega (arith, rw add-one at (lawful.rising (suc k) (omega arith))))))
      | inr outer ↦ rw add-one (rw (end_last cutting (suc k) (omega arith)) (rw (end_inner cutting k (omega arith)) (omega (arith, lawful.within k 0 (omega arith)))))
    ]
