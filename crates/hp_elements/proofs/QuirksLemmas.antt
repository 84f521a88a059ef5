-- Texts that are compared without ASCII case.
use Rattle.std.proofs.Common.{◌≡◌, ◌<◌, ℕ, List, Bool, true, false, length, take, map, IsTrue, sym, ap, ◌∙◌, arith}
use Rattle.std.specs.Str.{chars, IsUtf8}
use Rattle.std.specs.Char.{to_ascii_lowercase}
use Rattle.std.proofs.lemmas.Slice.Eq.{bytes_eq-Decides}
use Rattle.std.proofs.lemmas.List.{length-take, length-map, take-map}
use Rattle.std.proofs.lemmas.Str.{encodes-chars}
use lib.Utf8.{encodes}
use Rattle.hp_elements.specs.Quirks.{begins, equals, bytes_of}

same_answer : (r s : Bool) → (r ≡ true → s ≡ true) → (s ≡ true → r ≡ true) → r ≡ s
same_answer true s f g = sym (f refl)
  where
    refl : true ≡ true
    refl = λ i. true
same_answer false true f g = g (λ i. true)
same_answer false false f g = λ i. false

lowers_bytes : (bytes now : List ℕ) → IsUtf8 bytes → chars bytes ≡ now → map to_ascii_lowercase bytes ≡ bytes_of now
lowers_bytes bytes now u v = ap (map to_ascii_lowercase) (sym (encodes-chars bytes u) ∙ ap encodes v)

pub equals_is : (r : Bool) (bytes now bytes' other : List ℕ) → IsUtf8 bytes → chars bytes ≡ now → bytes' ≡ other → (IsTrue r → map to_ascii_lowercase bytes ≡ bytes') × (map to_ascii_lowercase bytes ≡ bytes' → IsTrue r) → r ≡ equals other now
equals_is r bytes now bytes' other u v p t =
    let low = lowers_bytes bytes now u v in
    same_answer r (equals other now)
    (λ h. (bytes_eq-Decides (bytes_of now) other).1 (sym low ∙ (t.0 h ∙ p)))
    (λ h. t.1 (low ∙ ((bytes_eq-Decides (bytes_of now) other).0 h ∙ sym p)))

pub begins_is : (r : Bool) (bytes now bytes' front : List ℕ) → IsUtf8 bytes → chars bytes ≡ now → bytes' ≡ front
    → (IsTrue r → map to_ascii_lowercase (take (length front) bytes) ≡ bytes') × (map to_ascii_lowercase (take (length front) bytes) ≡ bytes' → IsTrue r) → r ≡ begins front now
begins_is r bytes now bytes' front u v p t =
    let low : map to_ascii_lowercase (take (length front) bytes) ≡ take (length front) (bytes_of now) =
    sym (take-map to_ascii_lowercase (length front) bytes) ∙ ap (take (length front)) (lowers_bytes bytes now u v) in
    same_answer r (begins front now)
    (λ h. (bytes_eq-Decides (take (length front) (bytes_of now)) front).1 (sym low ∙ (t.0 h ∙ p)))
    (λ h. t.1 (low ∙ ((bytes_eq-Decides (take (length front) (bytes_of now)) front).0 h ∙ sym p)))

-- a text that is shorter begins with no other
pub begins_not : (bytes now front : List ℕ) → IsUtf8 bytes → chars bytes ≡ now → length bytes < length front → false ≡ begins front now
begins_not bytes now front u v short = go (begins front now) (λ h.
    let same : take (length front) (bytes_of now) ≡ front = (bytes_eq-Decides (take (length front) (bytes_of now)) front).0 h in
    omega (arith, ap length same, length-take (length front) (bytes_of now), ap length (lowers_bytes bytes now u v), length-map bytes to_ascii_lowercase, short))
  where
    go : (b : Bool) → (b ≡ true → ⊥) → false ≡ b
    go true h = absurd (h (λ i. true))
    go false h = λ i. false
