-- Two texts put one after the other into the same place are one text there.
use Rattle.std.proofs.Common.{◌≡◌, ℕ, ◌<◌, Bool, true, false, ◌==◌, List, [], ◌∷◌, ◌++◌, length, refl, sym, ap, ◌∙◌, subst, inl, inr}
use Rattle.std.specs.Prelude.{if◌then◌else◌, ◌||◌, ◌&&◌, slice_set}
use Rattle.std.proofs.lemmas.Bool.{cases_Bool, cond-true, cond-false, and_parts}
use Rattle.std.proofs.lemmas.List.{append_assoc, get_or-set_same, set-set}
use Rattle.hp_control.specs.declared.edit.Child.TheVariants as child
use Rattle.hp_control.specs.declared.edit.Edit.TheVariants.{Put}
use Rattle.hp_control.specs.declared.edit.Place.{Place}
use Rattle.hp_control.specs.declared.edit.Place.TheVariants.{Into, Foster}
use Rattle.hp_control.specs.Tree.{Branch, Item, Element, Text, Comment, Doctype, Tree, applied, beside, branch, has_parent, id_of, in_each, in_one, is_element, is_place, is_there, leads_into_document, no_branch, put, put_before, put_last, stands_in, with_inside}
use Rattle.hp_groves.proofs.Branches.{below-there, has_parent-same, inside, inside-in_each, inside-in_one, length-in_each, length-in_one, there-same}
use Rattle.hp_groves.proofs.Items.{stands}
use Rattle.hp_groves.proofs.Sides.{by-one}

-- behind an item, where more than one item is there
last-behind : (x y : Item) (rest : List Item) (z w : Item) → put_last (x ∷ put_last (y ∷ rest) z) w ≡ x ∷ put_last (put_last (y ∷ rest) z) w
last-behind x (Element n) [] z w = refl
last-behind x (Text a) [] (Element n) w = refl
last-behind x (Text a) [] (Text b) w = refl
last-behind x (Text a) [] (Comment b) w = refl
last-behind x (Text a) [] (Doctype n p s) w = refl
last-behind x (Comment a) [] z w = refl
last-behind x (Doctype n p s) [] z w = refl
last-behind x y (v ∷ rest) z w = refl

pub last-joined : (a b : List ℕ) (xs : List Item) → put_last (put_last xs (Text a)) (Text b) ≡ put_last xs (Text (a ++ b))
last-joined a b [] = refl
last-joined a b (Element n ∷ []) = refl
last-joined a b (Text c ∷ []) = ap (λ text. Text text ∷ []) (append_assoc c a b)
last-joined a b (Comment c ∷ []) = refl
last-joined a b (Doctype n p s ∷ []) = refl
last-joined a b (x ∷ y ∷ rest) = last-behind x y rest (Text a) (Text b) ∙ ap (λ ys. x ∷ ys) (last-joined a b (y ∷ rest))

-- a list that begins with what isn't the table
record Begins (table : ℕ) (xs : List Item) : Type 0 where
  first : Item
  rest : List Item
  is : xs ≡ first ∷ rest
  other : is_element table first ≡ false

module _ (table : ℕ) (a b : List ℕ) where
  beside-begins : (y : Item) (rest : List Item) → is_element table y ≡ false → Begins table (beside y (Text a) ++ rest)
  beside-begins (Element n) rest h = record { first = Element n; rest = Text a ∷ rest; is = refl; other = h }
  beside-begins (Text c) rest h = record { first = Text (c ++ a); rest = rest; is = refl; other = refl }
  beside-begins (Comment c) rest h = record { first = Comment c; rest = Text a ∷ rest; is = refl; other = refl }
  beside-begins (Doctype n p s) rest h = record { first = Doctype n p s; rest = Text a ∷ rest; is = refl; other = refl }

  before-begins : (y : Item) (rest : List Item) → is_element table y ≡ false → Begins table (put_before table (y ∷ rest) (Text a))
  before-begins y [] h = record { first = y; rest = []; is = cond-false (is_element table y) _ _ h; other = h }
  before-begins y (z ∷ rest) h =
      elim (cases_Bool (is_element table z)) [
        | inl k ↦ subst (Begins table) (sym (cond-false (is_element table y) _ _ h ∙ cond-true (is_element table z) _ _ k)) (beside-begins y (z ∷ rest) h)
        | inr k ↦ record { first = y; rest = put_before table (z ∷ rest) (Text a); is = cond-false (is_element table y) _ _ h ∙ cond-false (is_element table z) _ _ k; other = h }
      ]

  before-behind : (x : Item) (zs : List Item) (w : Item) → is_element table x ≡ false → Begins table zs → put_before table (x ∷ zs) w ≡ x ∷ put_before table zs w
  before-behind x zs w h g =
      ap (λ ys. put_before table (x ∷ ys) w) g.is ∙ cond-false (is_element table x) _ _ h ∙ cond-false (is_element table g.first) _ _ g.other ∙ ap (λ ys. x ∷ put_before table ys w) (sym g.is)

  -- before the table itself
  here-joined : (y : Item) (rest : List Item) → is_element table y ≡ true → put_before table (Text a ∷ y ∷ rest) (Text b) ≡ Text (a ++ b) ∷ y ∷ rest
  here-joined y rest k = cond-true (is_element table y) _ _ k

  beside-joined : (x y : Item) (rest : List Item) → is_element table x ≡ false → is_element table y ≡ true
      → put_before table (beside x (Text a) ++ y ∷ rest) (Text b) ≡ beside x (Text (a ++ b)) ++ y ∷ rest
  beside-joined (Element n) y rest h k = cond-false (is_element table (Element n)) _ _ h ∙ ap (λ ys. Element n ∷ ys) (here-joined y rest k)
  beside-joined (Text c) y rest h k = cond-true (is_element table y) _ _ k ∙ ap (λ text. Text text ∷ y ∷ rest) (append_assoc c a b)
  beside-joined (Comment c) y rest h k = ap (λ ys. Comment c ∷ ys) (here-joined y rest k)
  beside-joined (Doctype n p s) y rest h k = ap (λ ys. Doctype n p s ∷ ys) (here-joined y rest k)

  pub before-joined : (xs : List Item) → put_before table (put_before table xs (Text a)) (Text b) ≡ put_before table xs (Text (a ++ b))
  before-joined [] = refl
  before-joined (x ∷ []) =
      elim (cases_Bool (is_element table x)) [
        | inl h ↦ ap (λ ys. put_before table ys (Text b)) (cond-true (is_element table x) _ _ h) ∙ here-joined x [] h ∙ sym (cond-true (is_element table x) _ _ h)
        | inr h ↦ ap (λ ys. put_before table ys (Text b)) (cond-false (is_element table x) _ _ h) ∙ cond-false (is_element table x) _ _ h ∙ sym (cond-false (is_element table x) _ _ h)
      ]
  before-joined (x ∷ y ∷ rest) =
      elim (cases_Bool (is_element table x)) [
        | inl h ↦ ap (λ ys. put_before table ys (Text b)) (cond-true (is_element table x) _ _ h) ∙ here-joined x (y ∷ rest) h ∙ sym (cond-true (is_element table x) _ _ h)
        | inr h ↦
            elim (cases_Bool (is_element table y)) [
              | inl k ↦
                  ap (λ ys. put_before table ys (Text b)) (cond-false (is_element table x) _ _ h ∙ cond-true (is_element table y) _ _ k)
                  ∙ beside-joined x y rest h k ∙ sym (cond-false (is_element table x) _ _ h ∙ cond-true (is_element table y) _ _ k)
              | inr k ↦
                  ap (λ ys. put_before table ys (Text b)) (cond-false (is_element table x) _ _ h ∙ cond-false (is_element table y) _ _ k)
                  ∙ before-behind x (put_before table (y ∷ rest) (Text a)) (Text b) h (before-begins y rest k)
                  ∙ ap (λ ys. x ∷ ys) (before-joined (y ∷ rest))
                  ∙ sym (cond-false (is_element table x) _ _ h ∙ cond-false (is_element table y) _ _ k)
            ]
      ]

-- A text changes nothing of which elements stand where.
last-stands : (id : ℕ) (a : List ℕ) (xs : List Item) → stands id (put_last xs (Text a)) ≡ stands id xs
last-stands id a [] = refl
last-stands id a (Element n ∷ []) = refl
last-stands id a (Text c ∷ []) = refl
last-stands id a (Comment c ∷ []) = refl
last-stands id a (Doctype n p s ∷ []) = refl
last-stands id a (x ∷ y ∷ rest) = ap (λ r. is_element id x || r) (last-stands id a (y ∷ rest))

either-same : (b : Bool) (id : ℕ) (xs ys : List Item) (r : Bool) → stands id xs ≡ r → stands id ys ≡ r → stands id (if b then xs else ys) ≡ r
either-same true id xs ys r h k = h
either-same false id xs ys r h k = k

beside-stands : (id : ℕ) (a : List ℕ) (x : Item) (rest : List Item) → stands id (beside x (Text a) ++ rest) ≡ stands id (x ∷ rest)
beside-stands id a (Element n) rest = refl
beside-stands id a (Text c) rest = refl
beside-stands id a (Comment c) rest = refl
beside-stands id a (Doctype n p s) rest = refl

before-stands : (table id : ℕ) (a : List ℕ) (xs : List Item) → stands id (put_before table xs (Text a)) ≡ stands id xs
before-stands table id a [] = refl
before-stands table id a (x ∷ []) = either-same (is_element table x) id (Text a ∷ x ∷ []) (x ∷ []) (stands id (x ∷ [])) refl refl
before-stands table id a (x ∷ y ∷ rest) =
    either-same (is_element table x) id (Text a ∷ x ∷ y ∷ rest) _ (stands id (x ∷ y ∷ rest)) refl
    (either-same (is_element table y) id (beside x (Text a) ++ y ∷ rest) (x ∷ put_before table (y ∷ rest) (Text a)) (stands id (x ∷ y ∷ rest))
    (beside-stands id a x (y ∷ rest)) (ap (λ r. is_element id x || r) (before-stands table id a (y ∷ rest))))

-- one change of a list after another
each-twice : (f g k : List Item → List Item) → ((xs : List Item) → g (f xs) ≡ k xs) → (t : Tree) → in_each g (in_each f t) ≡ in_each k t
each-twice f g k e [] = refl
each-twice f g k e (b ∷ bs) = ap (λ xs. record { tag = b.tag; inside = xs } ∷ in_each g (in_each f bs)) (e b.inside) ∙ ap (λ ys. with_inside k b ∷ ys) (each-twice f g k e bs)

one-twice : (f g k : List Item → List Item) → ((xs : List Item) → g (f xs) ≡ k xs) → (t : Tree) (id : ℕ) → id < length t → in_one g (in_one f t id) id ≡ in_one k t id
one-twice f g k e t id h =
    set-set t id (with_inside f (branch t id)) (with_inside g (branch (in_one f t id) id))
    ∙ ap (λ (b : Branch). slice_set t id (with_inside g b)) (get_or-set_same t id (with_inside f (branch t id)) no_branch h)
    ∙ ap (λ xs. slice_set t id (record { tag = (branch t id).tag; inside = xs })) (e (inside t id))

module _ (a : List ℕ) where
  put-stands : (t : Tree) (place : Place) → is_place t place ≡ true → (i id : ℕ) → stands_in (put t (Text a) place) i id ≡ stands_in t i id
  put-stands t (Into parent) h i id =
      ap (stands id) (inside-in_one (λ items. put_last items (Text a)) t (id_of parent) i (below-there t parent h)) ∙ either-same (i == id_of parent) id _ _ (stands_in t i id) (last-stands id a (inside t i)) refl
  put-stands t (Foster table above) h i id =
      by-one (λ v. stands_in v i id ≡ stands_in t i id) (has_parent t (id_of table)) _ _
      (λ _. ap (stands id) (inside-in_each (λ items. put_before (id_of table) items (Text a)) refl t i) ∙ before-stands (id_of table) id a (inside t i))
      (ap (stands id) (inside-in_one (λ items. put_last items (Text a)) t (id_of above) i (below-there t above (and_parts (is_there t table) (is_there t above) h).1)) ∙ either-same (i == id_of above) id _ _ (stands_in t i id) (last-stands id a (inside t i)) refl)

  -- also where nothing is put
  pub text-stands : (t : Tree) (place : Place) (i id : ℕ) → stands_in (applied t (Put (child.Text a) place)) i id ≡ stands_in t i id
  text-stands t place i id =
      by-one (λ v. stands_in v i id ≡ stands_in t i id) (is_place t place) _ t
      (λ h. by-one (λ v. stands_in v i id ≡ stands_in t i id) (leads_into_document t place) t _ (λ _. refl) (put-stands t place h i id)) refl

  put-place : (t : Tree) (place : Place) → length (put t (Text a) place) ≡ length t
  put-place t (Into parent) = length-in_one (λ items. put_last items (Text a)) t (id_of parent)
  put-place t (Foster table above) =
      by-one (λ v. length v ≡ length t) (has_parent t (id_of table)) _ _ (λ _. length-in_each (λ items. put_before (id_of table) items (Text a)) t) (length-in_one (λ items. put_last items (Text a)) t (id_of above))

place-by_length : (t u : Tree) (place : Place) → length t ≡ length u → is_place t place ≡ is_place u place
place-by_length t u (Into parent) e = there-same t u parent e
place-by_length t u (Foster table above) e = ap (λ x. x && is_there t above) (there-same t u table e) ∙ ap (λ x. is_there u table && x) (there-same t u above e)

document-by_stands : (t u : Tree) (place : Place) → ((i id : ℕ) → stands_in t i id ≡ stands_in u i id) → leads_into_document t place ≡ leads_into_document u place
document-by_stands t u (Into parent) e = refl
document-by_stands t u (Foster table above) e =
    ap (λ x. if x then stands_in t 0 (id_of table) else (id_of above == 0)) (has_parent-same t u (id_of table) (λ i. e i (id_of table)))
    ∙ ap (λ x. if has_parent u (id_of table) then x else (id_of above == 0)) (e 0 (id_of table))

put-joined : (t : Tree) (place : Place) (a b : List ℕ) → is_place t place ≡ true → put (put t (Text a) place) (Text b) place ≡ put t (Text (a ++ b)) place
put-joined t (Into parent) a b h =
    one-twice (λ items. put_last items (Text a)) (λ items. put_last items (Text b)) (λ items. put_last items (Text (a ++ b))) (last-joined a b) t (id_of parent) (below-there t parent h)
put-joined t (Foster table above) a b h =
    let c = id_of table in
    let parent : has_parent (put t (Text a) (Foster table above)) c ≡ has_parent t c = has_parent-same (put t (Text a) (Foster table above)) t c (λ i. put-stands a t (Foster table above) h i c) in
    elim (cases_Bool (has_parent t c)) [
      | inl k ↦
          cond-true (has_parent (put t (Text a) (Foster table above)) c) _ _ (parent ∙ k)
          ∙ ap (in_each (λ items. put_before c items (Text b))) (cond-true (has_parent t c) _ _ k)
          ∙ each-twice (λ items. put_before c items (Text a)) (λ items. put_before c items (Text b)) (λ items. put_before c items (Text (a ++ b))) (before-joined c a b) t
          ∙ sym (cond-true (has_parent t c) _ _ k)
      | inr k ↦
          cond-false (has_parent (put t (Text a) (Foster table above)) c) _ _ (parent ∙ k)
          ∙ ap (λ u. in_one (λ items. put_last items (Text b)) u (id_of above)) (cond-false (has_parent t c) _ _ k)
          ∙ one-twice (λ items. put_last items (Text a)) (λ items. put_last items (Text b)) (λ items. put_last items (Text (a ++ b))) (last-joined a b) t (id_of above) (below-there t above (and_parts (is_there t table) (is_there t above) h).1)
          ∙ sym (cond-false (has_parent t c) _ _ k)
    ]

-- an edit that puts a text, where it puts nothing and where it does
put-none : (t : Tree) (place : Place) (a : List ℕ) → is_place t place ≡ false → applied t (Put (child.Text a) place) ≡ t
put-none t place a h = cond-false (is_place t place) _ _ h

put-dropped : (t : Tree) (place : Place) (a : List ℕ) → is_place t place ≡ true → leads_into_document t place ≡ true → applied t (Put (child.Text a) place) ≡ t
put-dropped t place a h k = cond-true (is_place t place) _ _ h ∙ cond-true (leads_into_document t place) _ _ k

put-done : (t : Tree) (place : Place) (a : List ℕ) → is_place t place ≡ true → leads_into_document t place ≡ false → applied t (Put (child.Text a) place) ≡ put t (Text a) place
put-done t place a h k = cond-true (is_place t place) _ _ h ∙ cond-false (leads_into_document t place) _ _ k

pub texts-joined : (t : Tree) (place : Place) (a b : List ℕ) → applied (applied t (Put (child.Text a) place)) (Put (child.Text b) place) ≡ applied t (Put (child.Text (a ++ b)) place)
texts-joined t place a b =
    let again : Tree → Tree = λ u. applied u (Put (child.Text b) place) in
    elim (cases_Bool (is_place t place)) [
      | inr h ↦ ap again (put-none t place a h) ∙ put-none t place b h ∙ sym (put-none t place (a ++ b) h)
      | inl h ↦
          elim (cases_Bool (leads_into_document t place)) [
            | inl k ↦ ap again (put-dropped t place a h k) ∙ put-dropped t place b h k ∙ sym (put-dropped t place (a ++ b) h k)
            | inr k ↦
                let u : Tree = put t (Text a) place in
                ap again (put-done t place a h k)
                ∙ put-done u place b (place-by_length u t place (put-place a t place) ∙ h) (document-by_stands u t place (λ i id. put-stands a t place h i id) ∙ k)
                ∙ put-joined t place a b h ∙ sym (put-done t place (a ++ b) h k)
          ]
    ]
