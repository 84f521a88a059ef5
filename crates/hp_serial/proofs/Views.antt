-- What is written for what a view shows.
use Rattle.std.proofs.Common.{◌≡◌, ℕ, List, [], ◌++◌, refl, sym, ap, ◌∙◌, Some, slice_get, append-nil}
use Rattle.std.specs.Prelude.{Bool, true, encode_utf8_all, unwrap_or}
use Rattle.std.specs.Borrow.{Bor}
use Rattle.std.specs.Option.{option_copied}
use Rattle.std.proofs.lemmas.Bool.{true≢false, cond-true}
use Rattle.hp_elements.specs.declared.tag.Tag.{Tag}
use Rattle.hp_control.specs.Tree.{Tree, Item, branch}
use Rattle.hp_control.specs.Tree as item
use Rattle.hp_arena.specs.Arena.{Seen}
use Rattle.hp_arena.specs.Readers.{shown, text_of, is_item, HasTag, IsAt, IsIn, IsShown, parent_of, place_of, siblings}
use Rattle.hp_arena.specs.declared.readers.At.{At}
use Rattle.hp_arena.specs.declared.readers.At.TheVariants as at
use Rattle.hp_arena.specs.declared.readers.NodeView.{NodeView}
use Rattle.hp_arena.specs.declared.readers.NodeView.TheVariants as node
use Rattle.hp_serial.specs.Html.{back, inside, is_void, start_of, start_tag, end_of, end_tag, written_inside}
use Rattle.hp_serial.specs.Walk.{front_of, back_of}

-- what stands at a place in a list of children is in the tree, at that place
pub in-there : (t : Seen) (parent place : ℕ) (a : At) → IsIn t parent place a → IsAt t a
in-there t parent place at.Document h = absurd h
in-there t parent place (at.Child spot) h = h.1.1
in-there t parent place (at.Contents id) h = absurd h

pub in-place : (t : Seen) (parent place : ℕ) (a : At) → IsIn t parent place a → (parent_of a ≡ parent) × (place_of a ≡ place)
in-place t parent place at.Document h = absurd h
in-place t parent place (at.Child spot) h = (h.0, h.1.0)
in-place t parent place (at.Contents id) h = absurd h

pub in-own : (t : Seen) (parent place : ℕ) (a : At) → IsIn t parent place a → IsIn t (parent_of a) (place_of a) a
in-own t parent place at.Document h = absurd h
in-own t parent place (at.Child spot) h = (refl, (refl, h.1.1))
in-own t parent place (at.Contents id) h = absurd h

pub in-siblings : (t : Seen) (parent place : ℕ) (a : At) → IsIn t parent place a → siblings t.branches a ≡ (branch t.branches (parent_of a)).inside
in-siblings t parent place at.Document h = absurd h
in-siblings t parent place (at.Child spot) h = refl
in-siblings t parent place (at.Contents id) h = absurd h

pub in-shown : (t : Seen) (parent place : ℕ) (a : At) (view : NodeView) → IsIn t parent place a → IsShown t.branches a view
    → (slice_get (branch t.branches (parent_of a)).inside (place_of a) ≡ shown view) × (is_item view ≡ true)
in-shown t parent place at.Document view h is = absurd h
in-shown t parent place (at.Child spot) view h is = is
in-shown t parent place (at.Contents id) view h is = absurd h

-- the view of an item shows it
pub item_shown : (view : NodeView) → is_item view ≡ true → (x : Item) × (shown view ≡ Some x)
item_shown node.Document h = absurd (true≢false (sym h))
item_shown node.Contents h = absurd (true≢false (sym h))
item_shown (node.Doctype name public system) h = (_, refl)
item_shown (node.Element id tag) h = (_, refl)
item_shown (node.Text runs) h = (_, refl)
item_shown (node.Comment text) h = (_, refl)

-- no such view shows an element
abbrev pub NoElement : NodeView → Type 0
NoElement view = (id : ℕ) (tag : Bor Tag) → view ≡ node.Element id tag → ⊥

-- nothing stands inside what is no element, and nothing is written behind it
pub leaf_empty : (t : Tree) (view : NodeView) (x : Item) → shown view ≡ Some x → NoElement view → (inside t x ≡ []) × (back t x ≡ [])
leaf_empty t node.Document x is other = cc is
leaf_empty t node.Contents x is other = cc is
leaf_empty t (node.Doctype name public system) x is other = let same : item.Doctype (unwrap_or (option_copied name) []) (option_copied public) (option_copied system) ≡ x = cc is in rw (← same) (refl, refl)
leaf_empty t (node.Element id tag) x is other = absurd (other id tag refl)
leaf_empty t (node.Text runs) x is other = let same : item.Text (text_of runs) ≡ x = cc is in rw (← same) (refl, refl)
leaf_empty t (node.Comment text) x is other = let same : item.Comment text.now ≡ x = cc is in rw (← same) (refl, refl)

pub leaf_back : (t : Tree) (view : NodeView) (out : List ℕ) → NoElement view → out ≡ out ++ encode_utf8_all (back_of t (shown view))
leaf_back t node.Document out other = sym (append-nil out)
leaf_back t node.Contents out other = sym (append-nil out)
leaf_back t (node.Doctype name public system) out other = sym (append-nil out)
leaf_back t (node.Element id tag) out other = absurd (other id tag refl)
leaf_back t (node.Text runs) out other = sym (append-nil out)
leaf_back t (node.Comment text) out other = sym (append-nil out)

-- what was written for a view was written for the item that it shows
pub front_shown : (t : Tree) (raw : Bool) (out new : List ℕ) (view same : NodeView) → view ≡ same → new ≡ out ++ encode_utf8_all (front_of t raw (shown same)) → new ≡ out ++ encode_utf8_all (front_of t raw (shown view))
front_shown t raw out new view same e f = f ∙ ap (λ v. out ++ encode_utf8_all (front_of t raw (shown v))) (sym e)

pub start_shown : (t : Tree) (raw : Bool) (out new : List ℕ) (id : ℕ) (tag : Bor Tag) → HasTag t (node.Element id tag) → new ≡ out ++ encode_utf8_all (start_tag tag.now)
    → new ≡ out ++ encode_utf8_all (front_of t raw (shown (node.Element id tag)))
start_shown t raw out new id tag has e = e ∙ ap (λ o. out ++ encode_utf8_all (start_of o)) (sym has)

pub back_shown : (t : Tree) (out new : List ℕ) (view : NodeView) (id : ℕ) (tag : Bor Tag) → view ≡ node.Element id tag → HasTag t view → new ≡ out ++ encode_utf8_all (end_tag tag.now)
    → new ≡ out ++ encode_utf8_all (back_of t (shown view))
back_shown t out new view id tag is has e =
    let tagged : (branch t id).tag ≡ Some tag.now = rw is at has in
    e ∙ ap (λ o. out ++ encode_utf8_all (end_of o)) (sym tagged) ∙ ap (λ v. out ++ encode_utf8_all (back_of t (shown v))) (sym is)

-- nothing that stands inside a void element is written
pub void_empty : (t : Tree) (id : ℕ) (tag : Tag) (x : Item) → (branch t id).tag ≡ Some tag → item.Element id ≡ x → is_void tag ≡ true → (inside t x ≡ []) × (back t x ≡ [])
void_empty t id tag x has same alone =
    rw (← same) (
      ap (λ o. written_inside o (branch t id).inside) has ∙ cond-true (is_void tag) [] (branch t id).inside alone,
      ap end_of has ∙ cond-true (is_void tag) [] _ alone,
    )

-- the item that the view of an element shows
pub same_item : (id : ℕ) (tag : Bor Tag) (view : NodeView) (x : Item) → view ≡ node.Element id tag → shown view ≡ Some x → item.Element id ≡ x
same_item id tag view x e is = let at_x : Some (item.Element id) ≡ Some x = sym (ap shown e) ∙ is in cc at_x
