-- Texts and their bytes.
use Rattle.std.proofs.Common.{◌≡◌, ℕ, ◌+◌, ◌-◌, ◌≤◌, ◌<◌, ◌==◌, List, [], ◌∷◌, ◌++◌, length, take, drop, sym, ◌∙◌, ap, arith, true, false, cond, Result, Ok, Err, OnOk, IfOk, is_ok, append-nil, length-append, length-drop, refl, Bool, sum_by, IsTrue}
use Rattle.std.specs.Str.{chars, IsUtf8}
use Rattle.std.proofs.lemmas.List.Sums.{sum_by-cons}
use Rattle.std.specs.Str.{bytes_eq}
use Rattle.std.proofs.lemmas.Slice.Eq.{bytes_eq-Decides}
use Rattle.std.proofs.lemmas.Bool.Decides.{nat_tests}
use Rattle.std.proofs.Math.Seq.{take-add}
use Rattle.std.proofs.lemmas.Str.{chars_past_char, chars-append, IsUtf8-encode}
use Rattle.std.specs.Char.{IsScalar}
use lib.Utf8.{encodes, encode}
use Rattle.std.specs.Char.{len_utf8}
use Rattle.std.proofs.lemmas.Str.{length-encode, encodes-chars, chars-nil, len_utf8_bounds}
use Rattle.std.proofs.lemmas.List.{length-take-le, length-take, take-take}

encodes-length : (cs : List ℕ) → sum_by len_utf8 cs ≡ length (encodes cs)
encodes-length [] = refl
encodes-length (c ∷ cs) = sum_by-cons len_utf8 c cs
    ∙ (ap (λ (n : ℕ). len_utf8 c + n) (encodes-length cs) ∙ (ap (λ (n : ℕ). n + length (encodes cs)) (sym (length-encode c)) ∙ sym (length-append (encode c) (encodes cs))))

-- how many bytes a text has
pub byte_length : (bs : List ℕ) → IsUtf8 bs → length bs ≡ sum_by len_utf8 (chars bs)
byte_length bs u = ap length (sym (encodes-chars bs u)) ∙ sym (encodes-length (chars bs))

-- two texts of the same code points have the same bytes
pub same_bytes : (xs ys : List ℕ) → IsUtf8 xs → IsUtf8 ys → chars xs ≡ chars ys → xs ≡ ys
same_bytes xs ys u v e = sym (encodes-chars xs u) ∙ (ap encodes e ∙ encodes-chars ys v)

not_zero : (n : ℕ) → 0 < n → (n == 0) ≡ false
not_zero n h = grind (arith, nat_tests)

empty_eqs : (cs : List ℕ) → (length (encodes cs) == 0) ≡ (length cs == 0)
empty_eqs [] = refl
empty_eqs (c ∷ cs) =
    let some : 0 < length (encodes (c ∷ cs)) = omega (arith, length-append (encode c) (encodes cs), length-encode c, (len_utf8_bounds c).0) in
    not_zero (length (encodes (c ∷ cs))) some ∙ sym (not_zero (length (c ∷ cs)) (omega arith))

-- a text has no bytes where it has no code points
pub is_empty_text : (bs : List ℕ) → IsUtf8 bs → (length bs == 0) ≡ (length (chars bs) == 0)
is_empty_text bs u = ap (λ (xs : List ℕ). length xs == 0) (sym (encodes-chars bs u)) ∙ empty_eqs (chars bs)

-- the bytes from a text's start on, with some that stand behind it
module _ (bs : List ℕ) (from to spare : ℕ) (ordered : from ≤ to) (within : to + spare ≤ length bs) where
  window_length : length (take (to + spare - from) (drop from bs)) ≡ to + spare - from
  window_length = length-take-le (to + spare - from) (drop from bs) (omega (arith, length-drop from bs))

  pub window_has : spare ≤ length (take (to + spare - from) (drop from bs))
  window_has = omega (arith, window_length)

  pub window_text : take (length (take (to + spare - from) (drop from bs)) - spare) (take (to + spare - from) (drop from bs)) ≡ take (to - from) (drop from bs)
  window_text =
      let here : length (take (to + spare - from) (drop from bs)) - spare ≡ to - from = omega (arith, window_length) in
      ap (λ (n : ℕ). take n (take (to + spare - from) (drop from bs))) here ∙ take-take (to - from) (to + spare - from) (drop from bs) (omega arith)

-- a comparison of two texts by their bytes
pub same_texts : (r : Bool) (xs ys cs ds : List ℕ) → r ≡ bytes_eq xs ys → IsUtf8 xs → IsUtf8 ys → chars xs ≡ cs → chars ys ≡ ds → (IsTrue r → cs ≡ ds) × (cs ≡ ds → IsTrue r)
same_texts r xs ys cs ds e u v p q = (
  λ h. sym p ∙ (ap chars ((bytes_eq-Decides xs ys).0 (sym e ∙ h)) ∙ q),
  λ h. e ∙ (bytes_eq-Decides xs ys).1 (same_bytes xs ys u v (p ∙ (h ∙ sym q))),
)

-- an array that begins with a text
pub short_is : (bytes text array : List ℕ) → bytes ≡ text → take (length bytes) array ≡ bytes → take (length text) array ≡ text
short_is bytes text array v e = ap (λ (xs : List ℕ). take (length xs) array) (sym v) ∙ (e ∙ v)

-- one text and then another, put behind it
pub short_both : (front back bytes more short longer : List ℕ) → bytes ≡ front → more ≡ back → take (length bytes) short ≡ bytes → take (length front + length more) longer ≡ take (length front) short ++ more
    → take (length front + length back) longer ≡ front ++ back
short_both front back bytes more short longer v w e h =
    ap (λ (xs : List ℕ). take (length front + length xs) longer) (sym w)
    ∙ (h ∙ (ap (λ (xs : List ℕ). xs ++ more) (short_is bytes front short v e) ∙ ap (λ (xs : List ℕ). front ++ xs) w))

pub chars-encode : (c : ℕ) → IsScalar c → chars (encode c) ≡ c ∷ []
chars-encode c s =
    chars_past_char (encode c) [] c (IsUtf8-encode c s) (sym (append-nil (encode c))) ∙ ap (λ (xs : List ℕ). c ∷ xs) chars-nil

pub on_ok : {T E P Q : Type 0} (r : Result T E) → OnOk r P → (P → Q) → OnOk r Q
on_ok (Ok x) p f = f p
on_ok (Err e) p f = tt

pub if_ok : {T E : Type 0} (P Q : T → Type 0) (r : Result T E) → IfOk r P → ((x : T) → P x → Q x) → IfOk r Q
if_ok P Q (Ok x) p f = f x p
if_ok P Q (Err e) p f = tt

-- what a push of a text leaves
pub pushed_text : {E : Type 0} (r : Result (Unit {0}) E) (old more new now : List ℕ) → IsUtf8 old → new ≡ cond (is_ok r) (old ++ more) old → chars old ≡ now → OnOk r (chars new ≡ now ++ chars more)
pushed_text (Ok x) old more new now u n v = ap chars n ∙ (chars-append old more u ∙ ap (λ (xs : List ℕ). xs ++ chars more) v)
pushed_text (Err e) old more new now u n v = tt

-- what stands behind a text in the page
pub behind_text : (bs next : List ℕ) (spare left : ℕ) → spare ≤ length bs → length next ≤ spare → left ≡ spare - length next → take (length next) (drop (length bs - spare) bs) ≡ next → take (length bs - left) bs ≡ take (length bs - spare) bs ++ next
behind_text bs next spare left fits more l e =
    let there : length bs - left ≡ length bs - spare + length next = omega arith in
    ap (λ (n : ℕ). take n bs) there ∙ (take-add (length bs - spare) (length next) bs ∙ ap (λ (xs : List ℕ). take (length bs - spare) bs ++ xs) e)

pub behind_short : (bs next : List ℕ) (spare : ℕ) → spare ≤ length bs → spare < length next → take (length next) (drop (length bs - spare) bs) ≡ next → ⊥
behind_short bs next spare fits more e = omega (arith, ap length e, length-take (length next) (drop (length bs - spare) bs), length-drop (length bs - spare) bs)

pub behind_found : (bs next bytes : List ℕ) (spare at : ℕ) → bytes ≡ next → spare ≤ length bs → length bytes ≤ spare → at ≡ length bs - spare
    → bytes_eq (take (at + length bytes - at) (drop at bs)) bytes ≡ true → take (length bs - (spare - length bytes)) bs ≡ take (length bs - spare) bs ++ next
behind_found bs next bytes spare at v fits more a h =
    let count : at + length bytes - at ≡ length bytes = omega arith in
    let found : take (length bytes) (drop (length bs - spare) bs) ≡ bytes =
    sym (ap (λ (n : ℕ). take n (drop at bs)) count ∙ ap (λ (n : ℕ). take (length bytes) (drop n bs)) a) ∙ (bytes_eq-Decides _ bytes).0 h in
    behind_text bs bytes spare (spare - length bytes) fits more refl found ∙ ap (λ (xs : List ℕ). take (length bs - spare) bs ++ xs) v
