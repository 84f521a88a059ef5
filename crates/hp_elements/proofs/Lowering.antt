-- Texts whose ASCII upper case letters are lowered.
use Prim.Native.Nat.{suc}
use Rattle.std.proofs.Common.{◌≡◌, ℕ, ◌<◌, ◌≤◌, List, [], ◌∷◌, ◌++◌, Bool, true, inl, inr, map, length, get_or, refl, sym, ap, ◌∙◌, arith, IsTrue, append-nil}
use Rattle.std.specs.Str.{chars, IsUtf8}
use Rattle.std.specs.Char.{to_ascii_lowercase}
use Rattle.std.proofs.lemmas.Bool.{cases_lt, and_parts, and_from}
use Rattle.std.proofs.lemmas.Str.{chars_from_encodes, inside_one, encode_ascii}
use Rattle.std.proofs.lemmas.Str.Ascii.{lowercase_is, lowercase_ascii}
use lib.Utf8.{scalar, scalars, encode, encodes, low_scalar}
use Rattle.hp_elements.proofs.TextLemmas.{same_bytes}

high : (b : ℕ) → 128 ≤ b → to_ascii_lowercase b ≡ b
high b h = (lowercase_is b).2 (omega arith)

map_stays : (f : ℕ → ℕ) (xs : List ℕ) → ((k : ℕ) → k < length xs → f (get_or xs k 0) ≡ get_or xs k 0) → map f xs ≡ xs
map_stays f [] h = refl
map_stays f (x ∷ xs) h =
    let rest : map f xs ≡ xs = map_stays f xs (λ k lt. h (suc k) (omega arith)) in
    let first : f x ≡ x = h 0 (omega arith) in
    ap (λ (y : ℕ). y ∷ map f xs) first ∙ ap (λ (ys : List ℕ). x ∷ ys) rest

map_append : (f : ℕ → ℕ) (xs ys : List ℕ) → map f (xs ++ ys) ≡ map f xs ++ map f ys
map_append f [] ys = refl
map_append f (x ∷ xs) ys = ap (λ (l : List ℕ). f x ∷ l) (map_append f xs ys)

byte_high : (c k : ℕ) → 128 ≤ c → k < length (encode c) → 128 ≤ get_or (encode c) k 0
byte_high c k h lt = elim (cases_lt (get_or (encode c) k 0) 128) [
  | inl low ↦ let e : c ≡ get_or (encode c) k 0 = inside_one c [] (encode c) k (sym (append-nil (encode c))) lt low in absurd (omega arith)
  | inr above ↦ above
]

letter : (c : ℕ) → map to_ascii_lowercase (encode c) ≡ encode (to_ascii_lowercase c)
letter c = elim (cases_lt c 128) [
  | inl low ↦ ap (map to_ascii_lowercase) (encode_ascii c low) ∙ sym (encode_ascii (to_ascii_lowercase c) (lowercase_ascii c low))
  | inr above ↦ map_stays to_ascii_lowercase (encode c) (λ k lt. high (get_or (encode c) k 0) (byte_high c k above lt)) ∙ ap encode (sym (high c above))
]

stays : (c : ℕ) → scalar c ≡ true → scalar (to_ascii_lowercase c) ≡ true
stays c e = elim (cases_lt c 128) [
  | inl low ↦ let k : to_ascii_lowercase c < 128 = lowercase_ascii c low in low_scalar (to_ascii_lowercase c) (omega arith)
  | inr above ↦ ap scalar (high c above) ∙ e
]

letters_scalar : (cs : List ℕ) → scalars cs ≡ true → scalars (map to_ascii_lowercase cs) ≡ true
letters_scalar [] e = refl
letters_scalar (c ∷ cs) e =
    let are = and_parts (scalar c) (scalars cs) e in
    and_from (scalar (to_ascii_lowercase c)) (scalars (map to_ascii_lowercase cs)) (stays c are.0) (letters_scalar cs are.1)

letters : (cs : List ℕ) → encodes (map to_ascii_lowercase cs) ≡ map to_ascii_lowercase (encodes cs)
letters [] = refl
letters (c ∷ cs) =
    ap (λ (xs : List ℕ). xs ++ encodes (map to_ascii_lowercase cs)) (sym (letter c))
    ∙ (ap (λ (xs : List ℕ). map to_ascii_lowercase (encode c) ++ xs) (letters cs) ∙ sym (map_append to_ascii_lowercase (encode c) (encodes cs)))

pub lowered_utf8 : (bs : List ℕ) → IsUtf8 bs → IsUtf8 (map to_ascii_lowercase bs)
lowered_utf8 bs u = (map to_ascii_lowercase u.0, (letters_scalar u.0 u.1.0, letters u.0 ∙ ap (map to_ascii_lowercase) u.1.1))

-- the code points of a lowered text are those of the text, lowered
pub lowered_chars : (bs : List ℕ) → IsUtf8 bs → chars (map to_ascii_lowercase bs) ≡ map to_ascii_lowercase (chars bs)
lowered_chars bs u =
    sym (chars_from_encodes (map to_ascii_lowercase u.0) (map to_ascii_lowercase bs) (lowered_utf8 bs u) (letters u.0 ∙ ap (map to_ascii_lowercase) u.1.1))
    ∙ ap (map to_ascii_lowercase) (chars_from_encodes u.0 bs u u.1.1)

-- a comparison of two texts by their lowered bytes
pub same_lowered : (r : Bool) (xs ys cs ds : List ℕ) → IsUtf8 xs → IsUtf8 ys → chars xs ≡ cs → chars ys ≡ ds
    → (IsTrue r → map to_ascii_lowercase xs ≡ map to_ascii_lowercase ys) × (map to_ascii_lowercase xs ≡ map to_ascii_lowercase ys → IsTrue r)
    → (IsTrue r → map to_ascii_lowercase cs ≡ map to_ascii_lowercase ds) × (map to_ascii_lowercase cs ≡ map to_ascii_lowercase ds → IsTrue r)
same_lowered r xs ys cs ds u v p q t =
    let a : chars (map to_ascii_lowercase xs) ≡ map to_ascii_lowercase cs = lowered_chars xs u ∙ ap (map to_ascii_lowercase) p in
    let b : chars (map to_ascii_lowercase ys) ≡ map to_ascii_lowercase ds = lowered_chars ys v ∙ ap (map to_ascii_lowercase) q in (
      λ h. sym a ∙ (ap chars (t.0 h) ∙ b),
      λ e. t.1 (same_bytes (map to_ascii_lowercase xs) (map to_ascii_lowercase ys) (lowered_utf8 xs u) (lowered_utf8 ys v) (a ∙ (e ∙ sym b))),
    )
