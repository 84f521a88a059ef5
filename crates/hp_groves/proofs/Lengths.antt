-- How many elements are there after an edit.
use Rattle.std.proofs.Common.{◌≡◌, ℕ, ◌+◌, not, ◌==◌, [], ◌++◌, length, refl, ◌∙◌, arith, Some}
use Rattle.std.specs.Prelude.{◌&&◌}
use Rattle.std.proofs.lemmas.List.{length_push, length-set}
use Rattle.hp_control.specs.declared.edit.Child.{Child}
use Rattle.hp_control.specs.declared.edit.Child.TheVariants as child
use Rattle.hp_control.specs.declared.edit.Edit.{Edit}
use Rattle.hp_control.specs.declared.edit.Edit.TheVariants.{NewElement, Put, Detach, MoveChildren, AddMissing}
use Rattle.hp_control.specs.declared.edit.Place.{Place}
use Rattle.hp_control.specs.declared.edit.Place.TheVariants.{Into, Foster}
use Rattle.hp_control.specs.Tree.{Element, Text, Comment, Item, Tree, applied, branch, children_moved, detached, has_parent, id_of, in_one, is_place, is_there, item_of_doctype, leads_into_document, may_be_child, put, put_before, put_child, put_last, with_attributes}
use Rattle.hp_groves.specs.Split.{made}
use Rattle.hp_groves.proofs.Branches.{length-in_each, length-in_one}
use Rattle.hp_groves.proofs.Items.{without}
use Rattle.hp_groves.proofs.Sides.{by-one}

length-put : (t : Tree) (item : Item) (place : Place) → length (put t item place) ≡ length t
length-put t item (Into parent) = length-in_one (λ items. put_last items item) t (id_of parent)
length-put t item (Foster table above) =
    by-one (λ v. length v ≡ length t) (has_parent t (id_of table)) _ _ (λ _. length-in_each (λ items. put_before (id_of table) items item) t) (length-in_one (λ items. put_last items item) t (id_of above))

length-put_child : (t : Tree) (c : Child) (place : Place) → length (put_child t c place) ≡ length t
length-put_child t (child.Element node) place =
    by-one (λ v. length v ≡ length t) (may_be_child t node) _ t (λ _. length-put (detached t (id_of node)) (Element (id_of node)) place ∙ length-in_each (without (id_of node)) t) refl
length-put_child t (child.Text text) place = by-one (λ v. length v ≡ length t) (leads_into_document t place) t _ (λ _. refl) (length-put t (Text text) place)
length-put_child t (child.Comment text) place = length-put t (Comment text) place
length-put_child t (child.Doctype parts) place = length-put t (item_of_doctype parts) place

length-moved : (t : Tree) (from to : ℕ) → length (children_moved t from to) ≡ length t
length-moved t from to = length-in_one (λ _. []) (in_one (λ items. items ++ (branch t from).inside) t to) from ∙ length-in_one (λ items. items ++ (branch t from).inside) t to

pub length-applied : (t : Tree) (e : Edit) → length (applied t e) ≡ length t + made e
length-applied t (NewElement tag) = length_push t (record { tag = Some tag; inside = [] })
length-applied t (Put c place) = omega (arith, by-one (λ v. length v ≡ length t) (is_place t place) _ t (λ _. length-put_child t c place) refl)
length-applied t (Detach node) = omega (arith, by-one (λ v. length v ≡ length t) (may_be_child t node) _ t (λ _. length-in_each (without (id_of node)) t) refl)
length-applied t (MoveChildren from to) =
    omega (arith, by-one (λ v. length v ≡ length t) (is_there t from && is_there t to && not (id_of from == id_of to)) _ t (λ _. length-moved t (id_of from) (id_of to)) refl)
length-applied t (AddMissing node more) =
    omega (arith, by-one (λ v. length v ≡ length t) (is_there t node) _ t (λ _. length-set t (id_of node) (record { tag = with_attributes (branch t (id_of node)).tag more; inside = (branch t (id_of node)).inside })) refl)
