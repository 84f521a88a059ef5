-- No edit makes a tree shorter.
use Rattle.std.proofs.Common.{◌≡◌, ◌≤◌, ℕ, [], ◌∷◌, ◌++◌, List, length, Bool, true, false, refl, ◌∙◌, arith, length-append}
use Rattle.std.specs.Prelude.{if◌then◌else◌, ◌&&◌, not, ◌==◌}
use Rattle.std.proofs.lemmas.List.{length-map, length-set}
use Rattle.hp_control.specs.declared.edit.Child.{Child}
use Rattle.hp_control.specs.declared.edit.Child.TheVariants as child
use Rattle.hp_control.specs.declared.edit.Edit.{Edit}
use Rattle.hp_control.specs.declared.edit.Edit.TheVariants.{NewElement, Put, Detach, MoveChildren, AddMissing}
use Rattle.hp_control.specs.declared.edit.Place.{Place}
use Rattle.hp_control.specs.declared.edit.Place.TheVariants.{Into, Foster}
use Rattle.hp_control.specs.Tree.{Branch, Item, Element, Text, Comment, Tree, applied, applied_all, branch, children_moved, detached, has_parent, id_of, in_each, in_one, is_element, is_place, is_there, item_of_doctype, leads_into_document, may_be_child, put, put_before, put_child, put_last, with_attributes, with_inside}
use Rattle.std.specs.Prelude.{filter}

-- one of two trees that are as long
either : (b : Bool) (t u : Tree) (n : ℕ) → length t ≡ n → length u ≡ n → length (if b then t else u) ≡ n
either true t u n e f = e
either false t u n e f = f

length-in_each : (change : List Item → List Item) (t : Tree) → length (in_each change t) ≡ length t
length-in_each change t = length-map t (with_inside change)

length-in_one : (change : List Item → List Item) (t : Tree) (id : ℕ) → length (in_one change t id) ≡ length t
length-in_one change t id = length-set t id (with_inside change (branch t id))

pub length-put : (t : Tree) (item : Item) (place : Place) → length (put t item place) ≡ length t
length-put t item (Into parent) = length-in_one (λ items. put_last items item) t (id_of parent)
length-put t item (Foster table above) =
    either (has_parent t (id_of table)) _ _ (length t) (length-in_each (λ items. put_before (id_of table) items item) t) (length-in_one (λ items. put_last items item) t (id_of above))

length-detached : (t : Tree) (id : ℕ) → length (detached t id) ≡ length t
length-detached t id = length-in_each (filter (λ item. not (is_element id item))) t

length-put_child : (t : Tree) (c : Child) (place : Place) → length (put_child t c place) ≡ length t
length-put_child t (child.Element node) place = either (may_be_child t node) _ _ (length t) (length-put (detached t (id_of node)) (Element (id_of node)) place ∙ length-detached t (id_of node)) refl
length-put_child t (child.Text text) place = either (leads_into_document t place) _ _ (length t) refl (length-put t (Text text) place)
length-put_child t (child.Comment text) place = length-put t (Comment text) place
length-put_child t (child.Doctype parts) place = length-put t (item_of_doctype parts) place

length-children_moved : (t : Tree) (from to : ℕ) → length (children_moved t from to) ≡ length t
length-children_moved t from to =
    length-in_one (λ _. []) (in_one (λ items. items ++ (branch t from).inside) t to) from
    ∙ length-in_one (λ items. items ++ (branch t from).inside) t to

pub longer : (t : Tree) (e : Edit) → length t ≤ length (applied t e)
longer t (NewElement tag) = omega (arith, length-append {A = Branch})
longer t (Put c place) = omega (arith, either (is_place t place) _ _ (length t) (length-put_child t c place) refl)
longer t (Detach node) = omega (arith, either (may_be_child t node) _ _ (length t) (length-detached t (id_of node)) refl)
longer t (MoveChildren from to) =
    omega (arith, either (is_there t from && is_there t to && not (id_of from == id_of to)) _ _ (length t) (length-children_moved t (id_of from) (id_of to)) refl)
longer t (AddMissing node more) =
    omega (arith, either (is_there t node) _ _ (length t) (length-set t (id_of node) (record { tag = with_attributes (branch t (id_of node)).tag more; inside = (branch t (id_of node)).inside })) refl)

pub longer_all : (t : Tree) (edits : List Edit) → length t ≤ length (applied_all t edits)
longer_all t [] = omega arith
longer_all t (e ∷ es) = omega (arith, longer t e, longer_all (applied t e) es)
