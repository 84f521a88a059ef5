-- Spaces in a row.
use Rattle.std.proofs.Common.{◌≡◌, ℕ, ◌+◌, ◌*◌, ◌<◌, ◌≤◌, suc, List, ◌∷◌, ◌++◌, replicate, ap, sym, ◌∙◌, take, arith}
use Rattle.hp_print.specs.Print.{indentation}
use Rattle.std.proofs.lemmas.List.{replicate-append-replicate, take-replicate}

-- some spaces and more spaces
pub more_blanks : (a b n : ℕ) → b ≡ a + n → replicate a 32 ++ replicate n 32 ≡ replicate {A = ℕ} b 32
more_blanks a b n e = replicate-append-replicate a n 32 ∙ ap (λ k. replicate k 32) (sym e)

pub blanks_part : (n : ℕ) → n ≤ 64 → take {A = ℕ} n (replicate 64 32) ≡ replicate n 32
blanks_part n h = take-replicate n 64 32 h

-- a line of depth 63 begins with what one of a lower depth begins with
pub line_part : (d : ℕ) → d < 64 → take (2 + 2 * d) (indentation 63) ≡ indentation d
line_part d h =
    let e : 2 + 2 * d ≡ suc (suc (d + d)) = omega arith in
    rw e (ap (λ (xs : List ℕ). 124 ∷ (32 ∷ xs)) (take-replicate (d + d) 126 32 (omega arith)))
