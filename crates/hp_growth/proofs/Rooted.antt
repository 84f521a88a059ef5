-- The document of a grove stays blank.
use Rattle.std.proofs.Common.{◌≡◌, ℕ, zero, suc, ◌<◌, Bool, true, false, List, [], ◌∷◌, ◌++◌, None, length, refl, ap, ◌∙◌, arith}
use Rattle.std.specs.Prelude.{if◌then◌else◌, ◌&&◌, ◌||◌, ◌==◌, not, filter, nat_lt, slice_set}
use Rattle.std.specs.List.{list_any}
use Rattle.std.proofs.lemmas.Bool.{or_parts, true≢false}
use Rattle.std.proofs.lemmas.List.{get_or_append_left}
use Rattle.std.proofs.lemmas.List.Folds.{list_any-append}
use Rattle.std.proofs.Common.{sym}
use Rattle.hp_control.specs.declared.edit.Child.{Child}
use Rattle.hp_control.specs.declared.edit.Child.TheVariants as child
use Rattle.hp_control.specs.declared.edit.Edit.{Edit}
use Rattle.hp_control.specs.declared.edit.Edit.TheVariants.{NewElement, Put, Detach, MoveChildren, AddMissing}
use Rattle.hp_control.specs.declared.edit.Place.{Place}
use Rattle.hp_control.specs.declared.edit.Place.TheVariants.{Into, Foster}
use Rattle.hp_control.specs.Tree.{Branch, Item, Element, Text, Comment, Tree, applied, branch, detached, has_parent, id_of, in_each, in_one, is_element, is_place, is_there, item_of_doctype, leads_into_document, may_be_child, no_branch, put, put_before, put_child, with_inside}
use Rattle.hp_groves.specs.Split.{child_ids, ids, parent_id, table_ids}
use Rattle.hp_growth.specs.Growing.{IsRooted}

abbrev blank_with : List Item → Branch
blank_with items = record { tag = None; inside = items }

either-blank : (b : Bool) (t u : Tree) → branch t 0 ≡ no_branch → branch u 0 ≡ no_branch → branch (if b then t else u) 0 ≡ no_branch
either-blank true t u h k = h
either-blank false t u h k = k

-- a change of another element
set-blank : (t : Tree) (id : ℕ) (b : Branch) → nat_lt id 1 ≡ false → branch (slice_set t id b) 0 ≡ branch t 0
set-blank t zero b h = absurd (true≢false h)
set-blank [] (suc k) b h = refl
set-blank (x ∷ t) (suc k) b h = refl

-- a change of each list that leaves an empty one empty
each-blank : (change : List Item → List Item) (t : Tree) → change [] ≡ [] → branch t 0 ≡ no_branch → branch (in_each change t) 0 ≡ no_branch
each-blank change [] e h = refl
each-blank change (b ∷ bs) e h = ap (with_inside change) h ∙ ap blank_with e

put-blank : (t : Tree) (x : Item) (place : Place) → nat_lt (parent_id place) 1 ≡ false → branch t 0 ≡ no_branch → branch (put t x place) 0 ≡ no_branch
put-blank t x (Into parent) p h = set-blank t (id_of parent) _ p ∙ h
put-blank t x (Foster table above) p h =
    either-blank (has_parent t (id_of table)) _ _ (each-blank (λ items. put_before (id_of table) items x) t refl h) (set-blank t (id_of above) _ p ∙ h)

child-blank : (t : Tree) (c : Child) (place : Place) → nat_lt (parent_id place) 1 ≡ false → branch t 0 ≡ no_branch → branch (put_child t c place) 0 ≡ no_branch
child-blank t (child.Element node) place p h =
    either-blank (may_be_child t node) _ _ (put-blank (detached t (id_of node)) (Element (id_of node)) place p (each-blank (filter (λ item. not (is_element (id_of node) item))) t refl h)) h
child-blank t (child.Text text) place p h = either-blank (leads_into_document t place) _ _ h (put-blank t (Text text) place p h)
child-blank t (child.Comment text) place p h = put-blank t (Comment text) place p h
child-blank t (child.Doctype parts) place p h = put-blank t (item_of_doctype parts) place p h

applied-blank : (t : Tree) (e : Edit) → 0 < length t → list_any (λ id. nat_lt id 1) (ids e) ≡ false → branch t 0 ≡ no_branch → branch (applied t e) 0 ≡ no_branch
applied-blank t (NewElement tag) some own h = get_or_append_left t _ no_branch 0 some ∙ h
applied-blank t (Put c place) some own h =
    let last = or_parts (list_any (λ id. nat_lt id 1) (child_ids c ++ table_ids place)) (nat_lt (parent_id place) 1 || false)
    (sym (list_any-append (λ id. nat_lt id 1) (child_ids c ++ table_ids place) (parent_id place ∷ [])) ∙ own) in
    either-blank (is_place t place) _ _ (child-blank t c place (or_parts (nat_lt (parent_id place) 1) false last.1).0 h) h
applied-blank t (Detach node) some own h = either-blank (may_be_child t node) _ _ (each-blank (filter (λ item. not (is_element (id_of node) item))) t refl h) h
applied-blank t (MoveChildren from to) some own h =
    let first = or_parts (nat_lt (id_of from) 1) (nat_lt (id_of to) 1 || false) own in
    let second = or_parts (nat_lt (id_of to) 1) false first.1 in
    either-blank (is_there t from && is_there t to && not (id_of from == id_of to)) _ _ (set-blank (in_one (λ items. items ++ (branch t (id_of from)).inside) t (id_of to)) (id_of from) _ first.0 ∙ set-blank t (id_of to) _ second.0 ∙ h) h
applied-blank t (AddMissing node more) some own h = either-blank (is_there t node) _ _ (set-blank t (id_of node) _ (or_parts (nat_lt (id_of node) 1) false own).0 ∙ h) h

-- an edit of own elements leaves the document blank
pub rooted-applied : (t : Tree) (count more : ℕ) (e : Edit) → IsRooted t count → list_any (λ id. nat_lt id 1) (ids e) ≡ false → length (applied t e) ≡ suc more → IsRooted (applied t e) more
rooted-applied t count more e r own long = record { blank = applied-blank t e (omega (arith, r.long)) own r.blank; long = long }
