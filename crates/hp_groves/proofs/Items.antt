-- What the changes of a list of children keep.
use Rattle.std.proofs.Common.{◌≡◌, ℕ, Bool, true, false, not, List, [], ◌∷◌, ◌++◌, refl, ap, ◌∙◌}
use Rattle.std.specs.Prelude.{filter, if◌then◌else◌}
use Rattle.std.specs.List.{list_any}
use Rattle.std.proofs.lemmas.Bool.{cond-true, cond-false, or_parts, or_from, not_from_false}
use Rattle.std.proofs.lemmas.List.Folds.{list_any-append}
use Rattle.hp_control.specs.Tree.{Item, Element, Text, Comment, Doctype, beside, is_element, put_before, put_last}

-- the element stands among the items
abbrev pub stands : ℕ → List Item → Bool
stands id items = list_any (is_element id) items

-- the items without the element
abbrev pub without : ℕ → List Item → List Item
without id items = filter (λ item. not (is_element id item)) items

-- what holds of both holds of one of them
pub stands-either : (b : Bool) (id : ℕ) (xs ys : List Item) → stands id xs ≡ false → stands id ys ≡ false → stands id (if b then xs else ys) ≡ false
stands-either true id xs ys h k = h
stands-either false id xs ys h k = k

stands-beside : (id : ℕ) (x y : Item) → is_element id x ≡ false → is_element id y ≡ false → stands id (beside x y) ≡ false
stands-beside id (Element n) y h k = or_from _ _ h (or_from _ _ k refl)
stands-beside id (Text a) (Element n) h k = or_from _ _ h (or_from _ _ k refl)
stands-beside id (Text a) (Text b) h k = refl
stands-beside id (Text a) (Comment b) h k = refl
stands-beside id (Text a) (Doctype n p s) h k = refl
stands-beside id (Comment a) y h k = or_from _ _ h (or_from _ _ k refl)
stands-beside id (Doctype n p s) y h k = or_from _ _ h (or_from _ _ k refl)

pub stands-append : (id : ℕ) (xs ys : List Item) → stands id xs ≡ false → stands id ys ≡ false → stands id (xs ++ ys) ≡ false
stands-append id xs ys h k = list_any-append (is_element id) xs ys ∙ or_from _ _ h k

pub stands-put_last : (id : ℕ) (xs : List Item) (item : Item) → stands id xs ≡ false → is_element id item ≡ false → stands id (put_last xs item) ≡ false
stands-put_last id [] item h k = or_from _ _ k refl
stands-put_last id (x ∷ []) item h k = stands-beside id x item (or_parts (is_element id x) false h).0 k
stands-put_last id (x ∷ y ∷ rest) item h k =
    let parts = or_parts (is_element id x) (stands id (y ∷ rest)) h in
    or_from _ _ parts.0 (stands-put_last id (y ∷ rest) item parts.1 k)

pub stands-put_before : (table id : ℕ) (xs : List Item) (item : Item) → stands id xs ≡ false → is_element id item ≡ false → stands id (put_before table xs item) ≡ false
stands-put_before table id [] item h k = refl
stands-put_before table id (x ∷ []) item h k = stands-either (is_element table x) id (item ∷ x ∷ []) (x ∷ []) (or_from _ _ k h) h
stands-put_before table id (x ∷ y ∷ rest) item h k =
    let parts = or_parts (is_element id x) (stands id (y ∷ rest)) h in
    stands-either (is_element table x) id (item ∷ x ∷ y ∷ rest) _ (or_from _ _ k h)
    (stands-either (is_element table y) id (beside x item ++ y ∷ rest) (x ∷ put_before table (y ∷ rest) item)
    (stands-append id (beside x item) (y ∷ rest) (stands-beside id x item parts.0 k) parts.1)
    (or_from _ _ parts.0 (stands-put_before table id (y ∷ rest) item parts.1 k)))

pub stands-without : (out id : ℕ) (xs : List Item) → stands id xs ≡ false → stands id (without out xs) ≡ false
stands-without out id [] h = refl
stands-without out id (x ∷ xs) h =
    let parts = or_parts (is_element id x) (stands id xs) h in
    stands-either (not (is_element out x)) id (x ∷ without out xs) (without out xs)
    (or_from _ _ parts.0 (stands-without out id xs parts.1)) (stands-without out id xs parts.1)

-- nothing is taken out where it doesn't stand
pub without-none : (out : ℕ) (xs : List Item) → stands out xs ≡ false → without out xs ≡ xs
without-none out [] h = refl
without-none out (x ∷ xs) h =
    let parts = or_parts (is_element out x) (stands out xs) h in
    cond-true (not (is_element out x)) _ _ (not_from_false (is_element out x) parts.0) ∙ ap (λ ys. x ∷ ys) (without-none out xs parts.1)

-- nothing is put before a table that isn't among the items
pub put_before-none : (table : ℕ) (xs : List Item) (item : Item) → stands table xs ≡ false → put_before table xs item ≡ xs
put_before-none table [] item h = refl
put_before-none table (x ∷ []) item h = cond-false (is_element table x) _ _ (or_parts (is_element table x) false h).0
put_before-none table (x ∷ y ∷ rest) item h =
    let parts = or_parts (is_element table x) (stands table (y ∷ rest)) h in
    let more = or_parts (is_element table y) (stands table rest) parts.1 in
    cond-false (is_element table x) _ _ parts.0 ∙ cond-false (is_element table y) _ _ more.0 ∙ ap (λ ys. x ∷ ys) (put_before-none table (y ∷ rest) item parts.1)
