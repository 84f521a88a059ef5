-- Texts that are compared, and the words of one.
use Rattle.std.proofs.Common.{◌≡◌, ℕ, List, refl, sym}
use Rattle.std.specs.Prelude.{Bool, true, false, bytes_eq, codes}
use Rattle.std.specs.Str.{chars, IsUtf8}
use Rattle.std.proofs.lemmas.Slice.Eq.{bytes_eq-Decides}
use Rattle.hp_elements.proofs.TextLemmas.{same_texts}

same-bool : (x y : Bool) → (x ≡ true → y ≡ true) → (y ≡ true → x ≡ true) → x ≡ y
same-bool true y to from = sym (to refl)
same-bool false true to from = from refl
same-bool false false to from = refl

-- bytes are compared as the code points that they spell
pub bytes_eq-chars : (r : Bool) (xs ys : List ℕ) → r ≡ bytes_eq xs ys → IsUtf8 xs → IsUtf8 ys → r ≡ bytes_eq (chars xs) (chars ys)
bytes_eq-chars r xs ys e u v =
    let same = same_texts r xs ys (chars xs) (chars ys) e u v refl refl in
    same-bool r (bytes_eq (chars xs) (chars ys)) (λ h. (bytes_eq-Decides (chars xs) (chars ys)).1 (same.0 h)) (λ h. same.1 ((bytes_eq-Decides (chars xs) (chars ys)).0 h))

pub chars-id : chars (codes "id") ≡ codes "id"
unfolding chars
chars-id = refl

pub chars-class : chars (codes "class") ≡ codes "class"
unfolding chars
chars-class = refl
