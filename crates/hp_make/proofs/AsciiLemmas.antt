-- A page is ASCII, and has the size that is asked for.
use Rattle.std.proofs.Common.{◌≡◌, ℕ, ◌+◌, ◌-◌, ◌/◌, ◌^◌, ◌<◌, suc, zero, List, [], ◌∷◌, Bool, true, false, ◌&&◌, nat_lt, nat_le, get_or, length, refl, arith}
use Rattle.std.proofs.lemmas.Bool.Decides.{nat_tests}
use Rattle.std.proofs.lemmas.List.Elements.{All-replicate}
use Rattle.std.proofs.lemmas.Str.{IsAscii-append}
use Rattle.std.proofs.lemmas.Str.Ascii.{IsAscii-from_all, IsAscii-nil}
use Rattle.std.specs.Prelude.{IsAscii, if◌then◌else◌}
use Rattle.hp_make.specs.Pages.{body, doctype, filling, next, page_of, piece, pieces}

-- each byte is below 128
abbrev all_ascii : List ℕ → Bool
all_ascii [] = true
all_ascii (x ∷ xs) = nat_lt x 128 && all_ascii xs

-- so of each of some lists
abbrev all_lists : List (List ℕ) → Bool
all_lists [] = true
all_lists (x ∷ xs) = all_ascii x && all_lists xs

both : (x y : Bool) → (x && y) ≡ true → (x ≡ true) × (y ≡ true)
both true y is = (refl, is)
both false y is = cc

small : (x : ℕ) → nat_lt x 128 ≡ true → x < 128
small x is = grind (arith, nat_tests)

ascii : (xs : List ℕ) → all_ascii xs ≡ true → IsAscii xs
ascii [] is i = IsAscii-nil i
ascii (x ∷ xs) is zero = small x (both _ _ is).0
ascii (x ∷ xs) is (suc i) = ascii xs (both _ _ is).1 i

ascii-at : (xs : List (List ℕ)) (i : ℕ) → all_lists xs ≡ true → IsAscii (get_or xs i [])
ascii-at [] i is = IsAscii-nil
ascii-at (x ∷ xs) zero is = ascii x (both _ _ is).0
ascii-at (x ∷ xs) (suc i) is = ascii-at xs i (both _ _ is).1

piece-ascii : (number : ℕ) → IsAscii (piece number)
piece-ascii number = ascii-at pieces (number / 2 ^ 60) refl

filling-ascii : (count : ℕ) → IsAscii (filling count)
filling-ascii count = IsAscii-from_all (filling count) (All-replicate (λ b. b < 128) count 120 (omega arith))

either : (b : Bool) (xs ys : List ℕ) → IsAscii xs → IsAscii ys → IsAscii (if b then xs else ys)
either true xs ys first second = first
either false xs ys first second = second

body-ascii : (turns number left : ℕ) → IsAscii (body turns number left)
unfolding body
body-ascii zero number left = IsAscii-nil
body-ascii (suc turns) number left =
    either (nat_le (length (piece (next number))) left) _ _
    (IsAscii-append (piece (next number)) _ (piece-ascii (next number)) (body-ascii turns (next number) (left - length (piece (next number)))))
    (filling-ascii left)

pub page-ascii : (seed size : ℕ) → IsAscii (page_of seed size)
page-ascii seed size = either (nat_lt size 15) _ _ (filling-ascii size) (IsAscii-append doctype _ (ascii doctype refl) (body-ascii (size - 15 + 1) seed (size - 15)))
