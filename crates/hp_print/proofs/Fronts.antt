-- Names whose first letters are ASCII and differ.
use Rattle.std.proofs.Common.{◌≡◌, ◌≢◌, ℕ, ◌<◌, ◌==◌, List, [], ◌∷◌, ◌++◌, false, length, get_or, refl, sym, ap, ◌∙◌, inl, inr, ◌⊎◌, arith, IsUtf8, Ordering, Less, Greater}
use Rattle.std.specs.Str.{chars}
use Rattle.std.specs.Char.Escape.{encode_utf16}
use Rattle.std.specs.Ordering.{nat_cmp, ordering_then}
use Rattle.std.specs.Cmp.{nat_cmp_is}
use Rattle.std.specs.Cmp.Lexicographic.{slice_cmp}
use Rattle.std.proofs.lemmas.Bool.{cases_lt, true≢false}
use Rattle.std.proofs.lemmas.Str.{chars_past_char, encode_ascii}
use Rattle.hp_print.specs.Order.{by_units, units}
use Rattle.hp_print.proofs.Units.{small}

-- an ASCII letter at the front is the first code point
low-chars : (x : ℕ) (xs : List ℕ) → IsUtf8 (x ∷ xs) → x < 128 → chars (x ∷ xs) ≡ x ∷ chars xs
low-chars x xs u low = chars_past_char (x ∷ xs) xs x u (ap (λ (e : List ℕ). e ++ xs) (sym (encode_ascii x low)))

-- the first units decide
first_units : (x y : ℕ) (us vs : List ℕ) → x ≢ y → nat_cmp x y ≡ slice_cmp nat_cmp (x ∷ us) (y ∷ vs)
first_units x y us vs apart =
    elim (cases_lt x y) [
      | inl lt ↦ decided _ (slice_cmp nat_cmp us vs) (inl (sym (nat_cmp_is x y Less lt)))
      | inr ge ↦ let gt : y < x = omega arith in decided _ (slice_cmp nat_cmp us vs) (inr (sym (nat_cmp_is x y Greater gt)))
    ] where
      decided : (o r : Ordering) → (o ≡ Less) ⊎ (o ≡ Greater) → o ≡ ordering_then o r
      decided o r h = elim h [ inl e ↦ rw e refl | inr e ↦ rw e refl ]

both_fronts : (x y : ℕ) (xs ys : List ℕ) → IsUtf8 (x ∷ xs) → IsUtf8 (y ∷ ys) → x < 128 → y < 128 → x ≢ y → nat_cmp x y ≡ by_units (chars (x ∷ xs)) (chars (y ∷ ys))
both_fronts x y xs ys u v hx hy apart =
    let first : encode_utf16 x ≡ x ∷ [] = small x (omega arith) in
    let second : encode_utf16 y ≡ y ∷ [] = small y (omega arith) in
    first_units x y (units (chars xs)) (units (chars ys)) apart
    ∙ sym (ap (λ (us : List ℕ). slice_cmp nat_cmp (us ++ units (chars xs)) (y ∷ units (chars ys))) first)
    ∙ sym (ap (λ (us : List ℕ). slice_cmp nat_cmp (encode_utf16 x ++ units (chars xs)) (us ++ units (chars ys))) second)
    ∙ sym (ap (λ (cs : List ℕ). by_units cs (y ∷ chars ys)) (low-chars x xs u hx))
    ∙ sym (ap (λ (cs : List ℕ). by_units (chars (x ∷ xs)) cs) (low-chars y ys v hy))

pub fronts_tell : (name other : List ℕ) → IsUtf8 name → IsUtf8 other → (length name == 0) ≡ false → (length other == 0) ≡ false
    → get_or name 0 0 < 128 → get_or other 0 0 < 128 → get_or name 0 0 ≢ get_or other 0 0
    → nat_cmp (get_or name 0 0) (get_or other 0 0) ≡ by_units (chars name) (chars other)
fronts_tell [] other u v some more hx hy apart = absurd (true≢false some)
fronts_tell (x ∷ xs) [] u v some more hx hy apart = absurd (true≢false more)
fronts_tell (x ∷ xs) (y ∷ ys) u v some more hx hy apart = both_fronts x y xs ys u v hx hy apart
