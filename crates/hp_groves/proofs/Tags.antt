-- What an edit does to the tags.
use Rattle.std.proofs.Common.{◌≡◌, ℕ, Bool, true, false, not, ◌==◌, List, [], length, refl, sym, ap, ◌∙◌, Option, Some}
use Rattle.std.specs.Prelude.{if◌then◌else◌, ◌&&◌}
use Rattle.std.proofs.lemmas.Bool.{cond-true, cond-false, ne_eqb, false≢true, not_from_true}
use Rattle.hp_elements.specs.declared.tag.Attribute.{Attribute}
use Rattle.hp_elements.specs.declared.tag.Tag.{Tag}
use Rattle.hp_control.specs.declared.edit.Child.{Child}
use Rattle.hp_control.specs.declared.edit.Child.TheVariants as child
use Rattle.hp_control.specs.declared.edit.Edit.{Edit}
use Rattle.hp_control.specs.declared.edit.Edit.TheVariants.{NewElement, Put, Detach, MoveChildren, AddMissing}
use Rattle.hp_control.specs.declared.edit.Place.{Place}
use Rattle.hp_control.specs.declared.edit.Place.TheVariants.{Into, Foster}
use Rattle.hp_control.specs.declared.edit.Ref.{Ref}
use Rattle.hp_control.specs.Tree.{Branch, Element, Text, Comment, Item, Tree, applied, branch, detached, has_parent, id_of, is_place, is_there, item_of_doctype, leads_into_document, may_be_child, put, put_before, put_child, put_last, with_attributes}
use Rattle.hp_groves.proofs.Branches.{below-there, branch-set, inside, tag, tag-in_each, tag-in_one, tag-moved, tag-push}
use Rattle.hp_groves.proofs.Items.{without}
use Rattle.hp_groves.proofs.Sides.{Fits, SameTags, by-one, by-test, others}

module _ (i : ℕ) where
  tag-put : (t : Tree) (item : Item) (place : Place) → tag (put t item place) i ≡ tag t i
  tag-put t item (Into parent) = tag-in_one (λ items. put_last items item) t (id_of parent) i
  tag-put t item (Foster table above) =
      by-one (λ v. tag v i ≡ tag t i) (has_parent t (id_of table)) _ _ (λ _. tag-in_each (λ items. put_before (id_of table) items item) t i) (tag-in_one (λ items. put_last items item) t (id_of above) i)

  tag-put_child : (t : Tree) (c : Child) (place : Place) → tag (put_child t c place) i ≡ tag t i
  tag-put_child t (child.Element node) place =
      by-one (λ v. tag v i ≡ tag t i) (may_be_child t node) _ t (λ _. tag-put (detached t (id_of node)) (Element (id_of node)) place ∙ tag-in_each (without (id_of node)) t i) refl
  tag-put_child t (child.Text text) place = by-one (λ v. tag v i ≡ tag t i) (leads_into_document t place) t _ (λ _. refl) (tag-put t (Text text) place)
  tag-put_child t (child.Comment text) place = tag-put t (Comment text) place
  tag-put_child t (child.Doctype parts) place = tag-put t (item_of_doctype parts) place

  pub kept-put : (t : Tree) (c : Child) (place : Place) → tag (applied t (Put c place)) i ≡ tag t i
  kept-put t c place = by-one (λ v. tag v i ≡ tag t i) (is_place t place) _ t (λ _. tag-put_child t c place) refl

  pub kept-detach : (t : Tree) (node : Ref) → tag (applied t (Detach node)) i ≡ tag t i
  kept-detach t node = by-one (λ v. tag v i ≡ tag t i) (may_be_child t node) _ t (λ _. tag-in_each (without (id_of node)) t i) refl

  pub kept-move : (t : Tree) (from to : Ref) → tag (applied t (MoveChildren from to)) i ≡ tag t i
  kept-move t from to = by-one (λ v. tag v i ≡ tag t i) (is_there t from && is_there t to && not (id_of from == id_of to)) _ t (λ _. tag-moved t (id_of from) (id_of to) i) refl

abbrev tag-of : Branch → Option Tag
tag-of b = b.tag

-- the branch of an element that gets what it lacks
abbrev lacking : Tree → ℕ → List Attribute → Branch
lacking t id more = record { tag = with_attributes (tag t id) more; inside = inside t id }

tag-either : (c : Bool) (a b : Branch) → tag-of (if c then a else b) ≡ (if c then tag-of a else tag-of b)
tag-either true a b = refl
tag-either false a b = refl

pub missing-at : (t : Tree) (node : Ref) (more : List Attribute) (i : ℕ) → is_there t node ≡ true
    → tag (applied t (AddMissing node more)) i ≡ (if i == id_of node then with_attributes (tag t (id_of node)) more else tag t i)
missing-at t node more i h =
    ap (λ v. tag v i) (cond-true (is_there t node) _ _ h)
    ∙ ap (λ (b : Branch). b.tag) (branch-set t (id_of node) i (lacking t (id_of node) more) (below-there t node h))
    ∙ tag-either (i == id_of node) (lacking t (id_of node) more) (branch t i)

module _ (K M : ℕ → Bool) where
  pub tags-same : (t u : Tree) (e : Edit) → Fits K M t u e → SameTags M t u → SameTags M (applied t e) (applied u e)
  tags-same t u (NewElement new) f s =
      let b : Branch = record { tag = Some new; inside = [] } in
      record {
        at = λ i m. tag-push t b i ∙ ap (λ n. if i == n then Some new else tag t i) f.0 ∙ ap (λ x. if i == length u then Some new else x) (s.at i m) ∙ sym (tag-push u b i);
      }
  tags-same t u (Put c place) f s = record { at = λ i m. kept-put i t c place ∙ s.at i m ∙ sym (kept-put i u c place) }
  tags-same t u (Detach node) f s = record { at = λ i m. kept-detach i t node ∙ s.at i m ∙ sym (kept-detach i u node) }
  tags-same t u (MoveChildren from to) f s = record { at = λ i m. kept-move i t from to ∙ s.at i m ∙ sym (kept-move i u from to) }
  tags-same t u (AddMissing node more) f s =
      by-test (SameTags M) (is_there t node) (is_there u node) _ t _ u f.0
      (λ h k. record {
        at = λ i m.
            sym (ap (λ v. tag v i) (cond-true (is_there t node) _ _ h)) ∙ missing-at t node more i h
            ∙ ap (λ x. if i == id_of node then with_attributes x more else tag t i) (s.at (id_of node) f.1)
            ∙ ap (λ x. if i == id_of node then with_attributes (tag u (id_of node)) more else x) (s.at i m)
            ∙ sym (missing-at u node more i k) ∙ ap (λ v. tag v i) (cond-true (is_there u node) _ _ k);
      }) s

  other : (id i : ℕ) → M id ≡ true → others M i ≡ true → (i == id) ≡ false
  other id i h k = ne_eqb i id (λ e. false≢true (sym (not_from_true (M i) (ap M e ∙ h)) ∙ k))

  pub tags-stay : (t u : Tree) (e : Edit) → Fits K M t u e → SameTags (others M) (applied t e) t
  tags-stay t u (NewElement new) f = record { at = λ i m. tag-push t (record { tag = Some new; inside = [] }) i ∙ cond-false (i == length t) _ _ (other (length t) i f.1 m) }
  tags-stay t u (Put c place) f = record { at = λ i m. kept-put i t c place }
  tags-stay t u (Detach node) f = record { at = λ i m. kept-detach i t node }
  tags-stay t u (MoveChildren from to) f = record { at = λ i m. kept-move i t from to }
  tags-stay t u (AddMissing node more) f =
      by-one (λ v. SameTags (others M) v t) (is_there t node) _ t
      (λ h. record { at = λ i m. sym (ap (λ v. tag v i) (cond-true (is_there t node) _ _ h)) ∙ missing-at t node more i h ∙ cond-false (i == id_of node) _ _ (other (id_of node) i f.1 m) })
      (record { at = λ i m. refl })
