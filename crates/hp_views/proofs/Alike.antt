-- A test that tells whether two texts are the same, as one that computes.
use Rattle.std.proofs.Common.{◌≡◌, ℕ, List, Bool, true, false, IsTrue, refl, sym}
use Rattle.std.specs.Prelude.{◌↔◌}
use Rattle.std.specs.Str.{bytes_eq}
use Rattle.std.proofs.lemmas.Slice.Eq.{bytes_eq-Decides}

both : (r b : Bool) → (r ≡ true → b ≡ true) → (b ≡ true → r ≡ true) → r ≡ b
both true b h k = sym (h refl)
both false true h k = k refl
both false false h k = refl

pub told_alike : (r : Bool) (xs ys : List ℕ) → (IsTrue r ↔ (xs ≡ ys)) → r ≡ bytes_eq xs ys
told_alike r xs ys t =
    let d = bytes_eq-Decides xs ys in
    both r (bytes_eq xs ys) (λ h. d.1 (t.0 h)) (λ h. t.1 (d.0 h))
