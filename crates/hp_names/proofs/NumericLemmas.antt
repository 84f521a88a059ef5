-- A list of what consecutive values stand for, as a test that is computed over the whole list, and what it says of each entry.
use Rattle.std.proofs.Common.{◌≡◌, ℕ, ◌+◌, ◌-◌, ◌<◌, ◌≤◌, suc, zero, List, [], ◌∷◌, Bool, true, ◌&&◌, nat_eq, get_or, length, arith, eqb-true, ap, ◌∙◌}
use Rattle.hp_names.specs.Numeric.{numeric}
use Rattle.hp_names.proofs.TableLemmas.{and_first, and_second}

abbrev pub is_listed : List ℕ → ℕ → Bool
is_listed [] from = true
is_listed (x ∷ xs) from = nat_eq x (numeric from) && is_listed xs (from + 1)

pub listed-at : (xs : List ℕ) (from i : ℕ) → is_listed xs from ≡ true → i < length xs → get_or xs i 0 ≡ numeric (from + i)
listed-at [] from i h l = absurd (omega arith)
listed-at (x ∷ xs) from zero h l =
    let start : from ≡ from + 0 = omega arith in
    eqb-true x (numeric from) (and_first _ _ h) ∙ ap numeric start
listed-at (x ∷ xs) from (suc i) h l =
    let next : (from + 1) + i ≡ from + suc i = omega arith in
    listed-at xs (from + 1) i (and_second _ _ h) (omega arith) ∙ ap numeric next

pub listed-value : (xs : List ℕ) (from value : ℕ) → is_listed xs from ≡ true → from ≤ value → value < from + length xs → get_or xs (value - from) 0 ≡ numeric value
listed-value xs from value h l m =
    let place : from + (value - from) ≡ value = omega arith in
    listed-at xs from (value - from) h (omega arith) ∙ ap numeric place
