-- Bytes that are written behind others.
use Rattle.std.proofs.Common.{◌≡◌, ℕ, ◌+◌, ◌*◌, ◌<◌, ◌≤◌, suc, List, [], ◌∷◌, ◌++◌, length, take, drop, ap, sym, ◌∙◌, append_assoc, arith}
use Rattle.std.proofs.lemmas.List.{take-replicate, take-take, length-take-le}
use Rattle.std.proofs.Math.Seq.{take-append_seam, take-append-add}
use Rattle.hp_print.specs.Print.{indentation}

-- a line of depth 15 begins with what one of a lower depth begins with
low_part : (d : ℕ) → d < 16 → take (2 + 2 * d) (indentation 15) ≡ indentation d
low_part d h =
    let e : 2 + 2 * d ≡ suc (suc (d + d)) = omega arith in
    rw e (ap (λ (xs : List ℕ). 124 ∷ (32 ∷ xs)) (take-replicate (d + d) 30 32 (omega arith)))

-- of the front of a line of depth 15 as much is kept as a line of a lower depth begins with
pub front_part : (into old : List ℕ) (at d : ℕ) → at ≤ length old → d < 16 → take (at + 32) into ≡ take at old ++ indentation 15
    → take (at + 2 + 2 * d) into ≡ take at old ++ indentation d
front_part into old at d within low is =
    let len : length (take at old) ≡ at = length-take-le at old within in
    let count : at + 2 + 2 * d ≡ length (take at old) + (2 + 2 * d) = omega arith in
    sym (take-take (at + 2 + 2 * d) (at + 32) into (omega arith))
    ∙ ap (take (at + 2 + 2 * d)) is
    ∙ ap (λ n. take n (take at old ++ indentation 15)) count
    ∙ take-append-add (take at old) (indentation 15) (2 + 2 * d)
    ∙ ap (λ xs. take at old ++ xs) (low_part d low)

-- the bytes are those that were written
pub written : (into items now piece : List ℕ) (n r at : ℕ) → length into ≡ n → take r into ≡ take at items ++ piece → take at items ≡ now
    → take r (take n (into ++ drop (length into) items)) ≡ now ++ piece
written into items now piece n r at len is same =
    ap (take r) (ap (λ k. take k (into ++ drop (length into) items)) (sym len) ∙ take-append_seam into (drop (length into) items))
    ∙ is ∙ ap (λ xs. xs ++ piece) same

-- a line is written piece by piece
pub line_written : (start a b c d front text : List ℕ) (left right : ℕ) → a ≡ start ++ front → b ≡ a ++ left ∷ [] → c ≡ b ++ text → d ≡ c ++ right ∷ 10 ∷ [] → d ≡ start ++ (front ++ left ∷ (text ++ right ∷ 10 ∷ []))
line_written start a b c d front text left right e f g h = rw (h, g, f, e) (simp append_assoc)

pub pair_written : (start a b c d e front name between value behind : List ℕ) → a ≡ start ++ front → b ≡ a ++ name → c ≡ b ++ between → d ≡ c ++ value → e ≡ d ++ behind → e ≡ start ++ (front ++ name ++ between ++ value ++ behind)
pair_written start a b c d e front name between value behind f g h i j = rw (j, i, h, g, f) (simp append_assoc)
