-- A test of two texts that says exactly whether they are the same is the test of their code points.
use Rattle.std.proofs.Common.{◌≡◌, ℕ, List, Bool, true, false, IsTrue, refl, sym}
use Rattle.std.specs.Str.{bytes_eq}
use Rattle.std.proofs.lemmas.Slice.Eq.{bytes_eq-Decides}

decided : (r b : Bool) (xs ys : List ℕ) → (r ≡ true → xs ≡ ys) × (xs ≡ ys → r ≡ true) → (b ≡ true → xs ≡ ys) × (xs ≡ ys → b ≡ true) → r ≡ b
decided true true xs ys h k = refl
decided false false xs ys h k = refl
decided true false xs ys h k = sym (k.1 (h.0 refl))
decided false true xs ys h k = h.1 (k.0 refl)

pub text_test : (r : Bool) (xs ys : List ℕ) → (IsTrue r → xs ≡ ys) × (xs ≡ ys → IsTrue r) → r ≡ bytes_eq xs ys
text_test r xs ys h = decided r (bytes_eq xs ys) xs ys h (bytes_eq-Decides xs ys)
