-- An element that an edit doesn't put comes into no list of children but by a move of all children of another.
use Rattle.std.proofs.Common.{◌≡◌, ℕ, Bool, true, false, not, ◌==◌, List, [], ◌++◌, refl, sym, ap, ◌∙◌, Some}
use Rattle.std.specs.Prelude.{if◌then◌else◌, ◌&&◌}
use Rattle.std.proofs.lemmas.Bool.{and_parts, eqb-true, or_parts}
use Rattle.hp_control.specs.declared.edit.Child.{Child}
use Rattle.hp_control.specs.declared.edit.Child.TheVariants as child
use Rattle.hp_control.specs.declared.edit.Edit.{Edit}
use Rattle.hp_control.specs.declared.edit.Edit.TheVariants.{NewElement, Put, Detach, MoveChildren, AddMissing}
use Rattle.hp_control.specs.declared.edit.Place.{Place}
use Rattle.hp_control.specs.declared.edit.Place.TheVariants.{Into, Foster}
use Rattle.hp_control.specs.Tree.{Element, Text, Comment, Item, Tree, applied, detached, has_parent, id_of, is_element, is_place, is_there, item_of_doctype, leads_into_document, may_be_child, put, put_before, put_child, put_last}
use Rattle.hp_groves.specs.Split.{is_among, moved}
use Rattle.hp_groves.proofs.Branches.{below-there, inside, inside-in_each, inside-in_one, inside-moved, inside-push}
use Rattle.hp_groves.proofs.Items.{stands, stands-append, stands-either, stands-put_before, stands-put_last, stands-without}
use Rattle.hp_groves.proofs.Sides.{Avoids, by-one, inside-detached, missing-inside, place-back}

-- where all children of one element move to another, they move within K
abbrev pub MovesWithin : (ℕ → Bool) → Edit → Type 0
MovesWithin K (NewElement tag) = Unit {0}
MovesWithin K (Put c place) = Unit {0}
MovesWithin K (Detach node) = Unit {0}
MovesWithin K (MoveChildren from to) = K (id_of to) ≡ true → K (id_of from) ≡ true
MovesWithin K (AddMissing node more) = Unit {0}

module _ (K : ℕ → Bool) (id : ℕ) where
  same-lists : (t u : Tree) → ((i : ℕ) → inside u i ≡ inside t i) → Avoids K t id → Avoids K u id
  same-lists t u e a = record { at = λ i k. ap (stands id) (e i) ∙ a.at i k }

  put-avoids : (t : Tree) (item : Item) (place : Place) → is_place t place ≡ true → is_element id item ≡ false → Avoids K t id → Avoids K (put t item place) id
  put-avoids t item (Into parent) h other a =
      record { at = λ i k. ap (stands id) (inside-in_one (λ items. put_last items item) t (id_of parent) i (below-there t parent h)) ∙ stands-either (i == id_of parent) id _ _ (stands-put_last id (inside t i) item (a.at i k) other) (a.at i k) }
  put-avoids t item (Foster table above) h other a =
      by-one (λ v. Avoids K v id) (has_parent t (id_of table)) _ _
      (λ _. record { at = λ i k. ap (stands id) (inside-in_each (λ items. put_before (id_of table) items item) refl t i) ∙ stands-put_before (id_of table) id (inside t i) item (a.at i k) other })
      (record { at = λ i k. ap (stands id) (inside-in_one (λ items. put_last items item) t (id_of above) i (below-there t above (and_parts (is_there t table) (is_there t above) h).1)) ∙ stands-either (i == id_of above) id _ _ (stands-put_last id (inside t i) item (a.at i k) other) (a.at i k) })

  by-list : (b : Bool) (xs ys : List Item) → (b ≡ true → stands id xs ≡ false) → stands id ys ≡ false → stands id (if b then xs else ys) ≡ false
  by-list true xs ys h k = h refl
  by-list false xs ys h k = k

  detached-avoids : (t : Tree) (out : ℕ) → Avoids K t id → Avoids K (detached t out) id
  detached-avoids t out a = record { at = λ i k. ap (stands id) (inside-detached t out i) ∙ stands-without out id (inside t i) (a.at i k) }

  child-avoids : (t : Tree) (c : Child) (place : Place) → is_place t place ≡ true → is_among (moved (Put c place)) id ≡ false → Avoids K t id → Avoids K (put_child t c place) id
  child-avoids t (child.Element node) place h out a =
      by-one (λ v. Avoids K v id) (may_be_child t node) _ t
      (λ _. put-avoids (detached t (id_of node)) (Element (id_of node)) place (place-back t (id_of node) place ∙ h) (or_parts (id_of node == id) _ out).0 (detached-avoids t (id_of node) a)) a
  child-avoids t (child.Text text) place h out a = by-one (λ v. Avoids K v id) (leads_into_document t place) t _ (λ _. a) (put-avoids t (Text text) place h refl a)
  child-avoids t (child.Comment text) place h out a = put-avoids t (Comment text) place h refl a
  child-avoids t (child.Doctype parts) place h out a = put-avoids t (item_of_doctype parts) place h refl a

  pub avoids-applied : (t : Tree) (e : Edit) → MovesWithin K e → is_among (moved e) id ≡ false → Avoids K t id → Avoids K (applied t e) id
  avoids-applied t (NewElement tag) m out a = same-lists t _ (λ i. inside-push t (record { tag = Some tag; inside = [] }) i refl) a
  avoids-applied t (Put c place) m out a = by-one (λ v. Avoids K v id) (is_place t place) _ t (λ h. child-avoids t c place h out a) a
  avoids-applied t (Detach node) m out a = by-one (λ v. Avoids K v id) (may_be_child t node) _ t (λ _. detached-avoids t (id_of node) a) a
  avoids-applied t (MoveChildren from to) m out a =
      let x = id_of from in
      let y = id_of to in
      by-one (λ v. Avoids K v id) (is_there t from && is_there t to && not (x == y)) _ t
      (λ h.
      let there = and_parts (is_there t from) (is_there t to) (and_parts (is_there t from && is_there t to) (not (x == y)) h).0 in
      record {
        at = λ i k.
            ap (stands id) (inside-moved t x y i (below-there t from there.0) (below-there t to there.1))
            ∙ stands-either (i == x) id _ _ refl
            (by-list (i == y) (inside t i ++ inside t x) (inside t i)
            (λ e. stands-append id (inside t i) (inside t x) (a.at i k) (a.at x (m (sym (ap K (eqb-true i y e)) ∙ k)))) (a.at i k));
      }) a
  avoids-applied t (AddMissing node more) m out a = same-lists t _ (λ i. missing-inside t node more i) a
