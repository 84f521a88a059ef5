-- An edit that reads and changes only some lists of children and some tags: where two trees have these in common, they have them in
-- common after it, and all others stay.
use Rattle.std.proofs.Common.{◌≡◌, ℕ, Bool, true, false, not, ◌==◌, List, [], ◌++◌, length, refl, sym, ap, ◌∙◌, inl, inr, Some}
use Rattle.std.specs.Prelude.{if◌then◌else◌, ◌&&◌}
use Rattle.std.specs.List.{list_any}
use Rattle.std.proofs.lemmas.Bool.{cases_Bool, cond-false, and_parts, false≢true, true≢false, ne_eqb, not_from_false, not_from_true}
use Rattle.hp_elements.specs.declared.tag.Attribute.{Attribute}
use Rattle.hp_control.specs.declared.edit.Child.{Child}
use Rattle.hp_control.specs.declared.edit.Child.TheVariants as child
use Rattle.hp_control.specs.declared.edit.Edit.{Edit}
use Rattle.hp_control.specs.declared.edit.Edit.TheVariants.{NewElement, Put, Detach, MoveChildren, AddMissing}
use Rattle.hp_control.specs.declared.edit.Place.{Place}
use Rattle.hp_control.specs.declared.edit.Place.TheVariants.{Into, Foster}
use Rattle.hp_control.specs.declared.edit.Ref.{Ref}
use Rattle.hp_control.specs.declared.edit.Ref.TheVariants.{Fixed, Older, Own}
use Rattle.hp_control.specs.Tree.{Branch, Element, Text, Comment, Item, Tree, applied, detached, has_parent, id_of, in_each, in_one, is_element, is_place, is_there, item_of_doctype, leads_into_document, may_be_child, put, put_before, put_child, put_last, stands_in, with_attributes}
use Rattle.hp_groves.proofs.Branches.{below-there, has_parent-same, inside, inside-in_each, inside-in_one, inside-moved, inside-push, length-in_each, part-set, tag, there-same}
use Rattle.hp_groves.proofs.Items.{put_before-none, stands-without, without, without-none}

-- the same lists of children at the elements of K
pub record SameLists (K : ℕ → Bool) (t u : Tree) : Type 0 where
  pub at : (i : ℕ) → K i ≡ true → inside t i ≡ inside u i

-- the same tags at the elements of M
pub record SameTags (M : ℕ → Bool) (t u : Tree) : Type 0 where
  pub at : (i : ℕ) → M i ≡ true → tag t i ≡ tag u i

-- all others
abbrev pub others : (ℕ → Bool) → ℕ → Bool
others K i = not (K i)

-- the element stands in none of the lists of K
pub record Avoids (K : ℕ → Bool) (t : Tree) (id : ℕ) : Type 0 where
  pub at : (i : ℕ) → K i ≡ true → stands_in t i id ≡ false

-- in both trees it is there or not, and its list of children is one of K
pub record FitsList (K : ℕ → Bool) (t u : Tree) (r : Ref) : Type 0 where
  pub there : is_there t r ≡ is_there u r
  pub among : K (id_of r) ≡ true

-- in both trees it is there or not, and stands in lists of K alone
pub record FitsNode (K : ℕ → Bool) (t u : Tree) (r : Ref) : Type 0 where
  pub there : is_there t r ≡ is_there u r
  pub left : Avoids (others K) t (id_of r)
  pub right : Avoids (others K) u (id_of r)

abbrev pub FitsPlace : (ℕ → Bool) → Tree → Tree → Place → Type 0
FitsPlace K t u (Into parent) = FitsList K t u parent
FitsPlace K t u (Foster table above) = FitsNode K t u table × FitsList K t u above

abbrev pub FitsChild : (ℕ → Bool) → Tree → Tree → Child → Type 0
FitsChild K t u (child.Element node) = FitsNode K t u node
FitsChild K t u (child.Text text) = Unit {0}
FitsChild K t u (child.Comment text) = Unit {0}
FitsChild K t u (child.Doctype parts) = Unit {0}

-- the edit reads and changes only lists of K and tags of M
abbrev pub Fits : (ℕ → Bool) → (ℕ → Bool) → Tree → Tree → Edit → Type 0
Fits K M t u (NewElement tag) = (length t ≡ length u) × (M (length t) ≡ true)
Fits K M t u (Put c place) = FitsChild K t u c × FitsPlace K t u place
Fits K M t u (Detach node) = FitsNode K t u node
Fits K M t u (MoveChildren from to) = FitsList K t u from × FitsList K t u to
Fits K M t u (AddMissing node more) = (is_there t node ≡ is_there u node) × (M (id_of node) ≡ true)

-- by a test that is the same
pub by-test : (P : Tree → Tree → Type 0) (a b : Bool) (t u t' u' : Tree) → a ≡ b → (a ≡ true → b ≡ true → P t t') → P u u' → P (if a then t else u) (if b then t' else u')
by-test P true true t u t' u' e h k = h refl refl
by-test P true false t u t' u' e h k = absurd (true≢false e)
by-test P false true t u t' u' e h k = absurd (false≢true e)
by-test P false false t u t' u' e h k = k

pub by-one : (P : Tree → Type 0) (a : Bool) (t u : Tree) → (a ≡ true → P t) → P u → P (if a then t else u)
by-one P true t u h k = h refl
by-one P false t u h k = k

both : (a b c d : Bool) → a ≡ c → b ≡ d → (a && b) ≡ (c && d)
both a b c d e f = ap (λ x. x && b) e ∙ ap (λ x. c && x) f

there-detached : (t : Tree) (id : ℕ) (r : Ref) → is_there (detached t id) r ≡ is_there t r
there-detached t id r = there-same (detached t id) t r (length-in_each (without id) t)

pub inside-detached : (t : Tree) (id i : ℕ) → inside (detached t id) i ≡ without id (inside t i)
inside-detached t id i = inside-in_each (without id) refl t i

pub place-back : (t : Tree) (id : ℕ) (place : Place) → is_place (detached t id) place ≡ is_place t place
place-back t id (Into parent) = there-detached t id parent
place-back t id (Foster table above) = both _ _ _ _ (there-detached t id table) (there-detached t id above)

pub missing-inside : (t : Tree) (node : Ref) (more : List Attribute) (i : ℕ) → inside (applied t (AddMissing node more)) i ≡ inside t i
missing-inside t node more i =
    by-one (λ u. inside u i ≡ inside t i) (is_there t node) _ t
    (λ h. part-set (λ (b : Branch). b.inside) t (id_of node) i (record { tag = with_attributes (tag t (id_of node)) more; inside = inside t (id_of node) }) refl) refl

module _ (K : ℕ → Bool) where
  place-same : (t u : Tree) (place : Place) → FitsPlace K t u place → is_place t place ≡ is_place u place
  place-same t u (Into parent) f = f.there
  place-same t u (Foster table above) f = both _ _ _ _ f.0.there f.1.there

  -- an element outside the other lists stands in the same lists of both trees
  stands-same : (t u : Tree) (r : Ref) → FitsNode K t u r → SameLists K t u → (i : ℕ) → stands_in t i (id_of r) ≡ stands_in u i (id_of r)
  stands-same t u r f s i =
      elim (cases_Bool (K i)) [
        | inl k ↦ ap (list_any (is_element (id_of r))) (s.at i k)
        | inr k ↦ f.left.at i (not_from_false (K i) k) ∙ sym (f.right.at i (not_from_false (K i) k))
      ]

  parent-same : (t u : Tree) (r : Ref) → FitsNode K t u r → SameLists K t u → has_parent t (id_of r) ≡ has_parent u (id_of r)
  parent-same t u r f s = has_parent-same t u (id_of r) (stands-same t u r f s)

  document-same : (t u : Tree) (place : Place) → FitsPlace K t u place → SameLists K t u → leads_into_document t place ≡ leads_into_document u place
  document-same t u (Into parent) f s = refl
  document-same t u (Foster table above) f s =
      ap (λ b. if b then stands_in t 0 (id_of table) else (id_of above == 0)) (parent-same t u table f.0 s)
      ∙ ap (λ b. if has_parent u (id_of table) then b else (id_of above == 0)) (stands-same t u table f.0 s 0)

  avoids-detached : (L : ℕ → Bool) (t : Tree) (out id : ℕ) → Avoids L t id → Avoids L (detached t out) id
  avoids-detached L t out id a = record { at = λ i k. ap (list_any (is_element id)) (inside-detached t out i) ∙ stands-without out id (inside t i) (a.at i k) }

  list-detached : (t u : Tree) (id : ℕ) (r : Ref) → FitsList K t u r → FitsList K (detached t id) (detached u id) r
  list-detached t u id r f = record { there = there-detached t id r ∙ f.there ∙ sym (there-detached u id r); among = f.among }

  place-detached : (t u : Tree) (id : ℕ) (place : Place) → FitsPlace K t u place → FitsPlace K (detached t id) (detached u id) place
  place-detached t u id (Into parent) f = list-detached t u id parent f
  place-detached t u id (Foster table above) f = (
    record {
      there = there-detached t id table ∙ f.0.there ∙ sym (there-detached u id table);
      left = avoids-detached (others K) t id (id_of table) f.0.left;
      right = avoids-detached (others K) u id (id_of table) f.0.right;
    },
    list-detached t u id above f.1,
  )

  -- in step: what the lists of K have in common they keep
  one-same : (f : List Item → List Item) (t u : Tree) (id : ℕ) → is_there t (Fixed id) ≡ true → is_there u (Fixed id) ≡ true → SameLists K t u → SameLists K (in_one f t id) (in_one f u id)
  one-same f t u id h k s = record {
    at = λ i m. inside-in_one f t id i (below-there t (Fixed id) h) ∙ ap (λ xs. if i == id then f xs else xs) (s.at i m) ∙ sym (inside-in_one f u id i (below-there u (Fixed id) k));
  }

  each-same : (f : List Item → List Item) → f [] ≡ [] → (t u : Tree) → SameLists K t u → SameLists K (in_each f t) (in_each f u)
  each-same f e t u s = record { at = λ i m. inside-in_each f e t i ∙ ap f (s.at i m) ∙ sym (inside-in_each f e u i) }

  fixed-there : (t : Tree) (r : Ref) → is_there t r ≡ true → is_there t (Fixed (id_of r)) ≡ true
  fixed-there t (Fixed id) h = h
  fixed-there t (Older depth) h = absurd (false≢true h)
  fixed-there t (Own number) h = absurd (false≢true h)

  put-same : (t u : Tree) (item : Item) (place : Place) → FitsPlace K t u place → is_place t place ≡ true → is_place u place ≡ true → SameLists K t u → SameLists K (put t item place) (put u item place)
  put-same t u item (Into parent) f h k s = one-same (λ items. put_last items item) t u (id_of parent) (fixed-there t parent h) (fixed-there u parent k) s
  put-same t u item (Foster table above) f h k s =
      by-test (SameLists K) (has_parent t (id_of table)) (has_parent u (id_of table)) _ _ _ _ (parent-same t u table f.0 s)
      (λ _ _. each-same (λ items. put_before (id_of table) items item) refl t u s)
      (one-same (λ items. put_last items item) t u (id_of above)
      (fixed-there t above (and_parts (is_there t table) (is_there t above) h).1)
      (fixed-there u above (and_parts (is_there u table) (is_there u above) k).1) s)

  child-same : (t u : Tree) (c : Child) (place : Place) → FitsChild K t u c → FitsPlace K t u place → is_place t place ≡ true → is_place u place ≡ true → SameLists K t u → SameLists K (put_child t c place) (put_child u c place)
  child-same t u (child.Element node) place n f h k s =
      let id = id_of node in
      by-test (SameLists K) (may_be_child t node) (may_be_child u node) _ _ _ _ (ap (λ b. b && not (id == 0)) n.there)
      (λ _ _. put-same (detached t id) (detached u id) (Element id) place (place-detached t u id place f)
      (place-back t id place ∙ h) (place-back u id place ∙ k)
      (each-same (without id) refl t u s)) s
  child-same t u (child.Text text) place n f h k s =
      by-test (SameLists K) (leads_into_document t place) (leads_into_document u place) _ _ _ _ (document-same t u place f s) (λ _ _. s) (put-same t u (Text text) place f h k s)
  child-same t u (child.Comment text) place n f h k s = put-same t u (Comment text) place f h k s
  child-same t u (child.Doctype parts) place n f h k s = put-same t u (item_of_doctype parts) place f h k s

  moved-same : (t u : Tree) (from to : Ref) → FitsList K t u from → FitsList K t u to → SameLists K t u
      → SameLists K (applied t (MoveChildren from to)) (applied u (MoveChildren from to))
  moved-same t u from to f g s =
      let a = id_of from in
      let b = id_of to in
      by-test (SameLists K) (is_there t from && is_there t to && not (a == b)) (is_there u from && is_there u to && not (a == b)) _ _ _ _
      (both _ _ _ _ (both _ _ _ _ f.there g.there) refl)
      (λ h k.
      let ht = and_parts (is_there t from) (is_there t to) (and_parts (is_there t from && is_there t to) (not (a == b)) h).0 in
      let hu = and_parts (is_there u from) (is_there u to) (and_parts (is_there u from && is_there u to) (not (a == b)) k).0 in
      record {
        at = λ i m.
            inside-moved t a b i (below-there t from ht.0) (below-there t to ht.1)
            ∙ ap (λ xs. if i == a then [] else (if i == b then xs ++ inside t a else xs)) (s.at i m)
            ∙ ap (λ ys. if i == a then [] else (if i == b then inside u i ++ ys else inside u i)) (s.at a f.among)
            ∙ sym (inside-moved u a b i (below-there u from hu.0) (below-there u to hu.1));
      })
      s

  -- the lists of K that are the same before an edit are the same after it
  pub lists-same : (M : ℕ → Bool) (t u : Tree) (e : Edit) → Fits K M t u e → SameLists K t u → SameLists K (applied t e) (applied u e)
  lists-same M t u (NewElement tag) f s =
      let b : Branch = record { tag = Some tag; inside = [] } in
      record { at = λ i m. inside-push t b i refl ∙ s.at i m ∙ sym (inside-push u b i refl) }
  lists-same M t u (Put c place) f s =
      by-test (SameLists K) (is_place t place) (is_place u place) _ _ _ _ (place-same t u place f.1) (λ h k. child-same t u c place f.0 f.1 h k s) s
  lists-same M t u (Detach node) f s =
      by-test (SameLists K) (may_be_child t node) (may_be_child u node) _ _ _ _ (ap (λ b. b && not (id_of node == 0)) f.there)
      (λ _ _. each-same (without (id_of node)) refl t u s) s
  lists-same M t u (MoveChildren from to) f s = moved-same t u from to f.0 f.1 s
  lists-same M t u (AddMissing node more) f s = record { at = λ i m. missing-inside t node more i ∙ s.at i m ∙ sym (missing-inside u node more i) }

  -- every other list stays
  apart : (id i : ℕ) → K id ≡ true → others K i ≡ true → (i == id) ≡ false
  apart id i h k = ne_eqb i id (λ e. false≢true (sym (not_from_true (K i) (ap K e ∙ h)) ∙ k))

  one-stays : (f : List Item → List Item) (t : Tree) (r : Ref) → is_there t r ≡ true → K (id_of r) ≡ true → SameLists (others K) (in_one f t (id_of r)) t
  one-stays f t r h among = record { at = λ i k. inside-in_one f t (id_of r) i (below-there t r h) ∙ cond-false (i == id_of r) _ _ (apart (id_of r) i among k) }

  detached-stays : (t : Tree) (id : ℕ) → Avoids (others K) t id → SameLists (others K) (detached t id) t
  detached-stays t id a = record { at = λ i k. inside-detached t id i ∙ without-none id (inside t i) (a.at i k) }

  put-stays : (t u : Tree) (item : Item) (place : Place) → FitsPlace K t u place → is_place t place ≡ true → SameLists (others K) (put t item place) t
  put-stays t u item (Into parent) f h = one-stays (λ items. put_last items item) t parent h f.among
  put-stays t u item (Foster table above) f h =
      by-one (λ v. SameLists (others K) v t) (has_parent t (id_of table)) _ _
      (λ _. record { at = λ i k. inside-in_each (λ items. put_before (id_of table) items item) refl t i ∙ put_before-none (id_of table) (inside t i) item (f.0.left.at i k) })
      (one-stays (λ items. put_last items item) t above (and_parts (is_there t table) (is_there t above) h).1 f.1.among)

  pub same-after : (L : ℕ → Bool) (t u v : Tree) → SameLists L t u → SameLists L u v → SameLists L t v
  same-after L t u v a b = record { at = λ i k. a.at i k ∙ b.at i k }

  child-stays : (t u : Tree) (c : Child) (place : Place) → FitsChild K t u c → FitsPlace K t u place → is_place t place ≡ true → SameLists (others K) (put_child t c place) t
  child-stays t u (child.Element node) place n f h =
      let id = id_of node in
      by-one (λ v. SameLists (others K) v t) (may_be_child t node) _ t
      (λ _. same-after (others K) (put (detached t id) (Element id) place) (detached t id) t
      (put-stays (detached t id) (detached u id) (Element id) place (place-detached t u id place f) (place-back t id place ∙ h))
      (detached-stays t id n.left))
      (record { at = λ i k. refl })
  child-stays t u (child.Text text) place n f h =
      by-one (λ v. SameLists (others K) v t) (leads_into_document t place) t _ (λ _. record { at = λ i k. refl }) (put-stays t u (Text text) place f h)
  child-stays t u (child.Comment text) place n f h = put-stays t u (Comment text) place f h
  child-stays t u (child.Doctype parts) place n f h = put-stays t u (item_of_doctype parts) place f h

  pub lists-stay : (M : ℕ → Bool) (t u : Tree) (e : Edit) → Fits K M t u e → SameLists (others K) (applied t e) t
  lists-stay M t u (NewElement tag) f = record { at = λ i k. inside-push t (record { tag = Some tag; inside = [] }) i refl }
  lists-stay M t u (Put c place) f = by-one (λ v. SameLists (others K) v t) (is_place t place) _ t (λ h. child-stays t u c place f.0 f.1 h) (record { at = λ i k. refl })
  lists-stay M t u (Detach node) f = by-one (λ v. SameLists (others K) v t) (may_be_child t node) _ t (λ h. detached-stays t (id_of node) f.left) (record { at = λ i k. refl })
  lists-stay M t u (MoveChildren from to) f =
      let a = id_of from in
      let b = id_of to in
      by-one (λ v. SameLists (others K) v t) (is_there t from && is_there t to && not (a == b)) _ t
      (λ h.
      let ht = and_parts (is_there t from) (is_there t to) (and_parts (is_there t from && is_there t to) (not (a == b)) h).0 in
      record { at = λ i k. inside-moved t a b i (below-there t from ht.0) (below-there t to ht.1) ∙ cond-false (i == a) _ _ (apart a i f.0.among k) ∙ cond-false (i == b) _ _ (apart b i f.1.among k) })
      (record { at = λ i k. refl })
  lists-stay M t u (AddMissing node more) f = record { at = λ i k. missing-inside t node more i }
