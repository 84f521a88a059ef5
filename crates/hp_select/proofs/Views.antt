-- What stands at a mark, and what its view shows.
use Rattle.std.proofs.Common.{◌≡◌, ℕ, List, [], refl, sym, ap, Some, slice_get}
use Rattle.std.specs.Prelude.{true}
use Rattle.std.specs.Borrow.{Bor}
use Rattle.std.proofs.lemmas.Bool.{true≢false}
use Rattle.hp_elements.specs.declared.tag.Tag.{Tag}
use Rattle.hp_control.specs.Tree.{Tree, Item, branch}
use Rattle.hp_control.specs.Tree as item
use Rattle.hp_arena.specs.Arena.{Seen}
use Rattle.hp_arena.specs.Readers.{element_at, element_of, shown, is_item, IsAt, IsIn, IsShown, parent_of, place_of, siblings}
use Rattle.hp_arena.specs.declared.readers.At.{At}
use Rattle.hp_arena.specs.declared.readers.At.TheVariants as at
use Rattle.hp_arena.specs.declared.readers.NodeView.{NodeView}
use Rattle.hp_arena.specs.declared.readers.NodeView.TheVariants as node
use Rattle.hp_select.specs.declared.rows.Reach.{Reach}
use Rattle.hp_select.specs.declared.selector.Step.{Step}
use Rattle.hp_select.specs.Selected.{inside}
use Rattle.hp_select.specs.Walk.{own_hit}

-- what stands at a place in a list of children is in the tree, at that place
pub in-there : (t : Seen) (parent place : ℕ) (a : At) → IsIn t parent place a → IsAt t a
in-there t parent place at.Document h = absurd h
in-there t parent place (at.Child spot) h = h.1.1
in-there t parent place (at.Contents id) h = absurd h

pub in-place : (t : Seen) (parent place : ℕ) (a : At) → IsIn t parent place a → (parent_of a ≡ parent) × (place_of a ≡ place)
in-place t parent place at.Document h = absurd h
in-place t parent place (at.Child spot) h = (h.0, h.1.0)
in-place t parent place (at.Contents id) h = absurd h

pub in-own : (t : Seen) (parent place : ℕ) (a : At) → IsIn t parent place a → IsIn t (parent_of a) (place_of a) a
in-own t parent place at.Document h = absurd h
in-own t parent place (at.Child spot) h = (refl, (refl, h.1.1))
in-own t parent place (at.Contents id) h = absurd h

pub in-siblings : (t : Seen) (parent place : ℕ) (a : At) → IsIn t parent place a → siblings t.branches a ≡ (branch t.branches (parent_of a)).inside
in-siblings t parent place at.Document h = absurd h
in-siblings t parent place (at.Child spot) h = refl
in-siblings t parent place (at.Contents id) h = absurd h

pub in-shown : (t : Seen) (parent place : ℕ) (a : At) (view : NodeView) → IsIn t parent place a → IsShown t.branches a view
    → (slice_get (branch t.branches (parent_of a)).inside (place_of a) ≡ shown view) × (is_item view ≡ true)
in-shown t parent place at.Document view h is = absurd h
in-shown t parent place (at.Child spot) view h is = is
in-shown t parent place (at.Contents id) view h is = absurd h

-- the element that stands there
pub in-element : (t : Seen) (parent place : ℕ) (a : At) (id : ℕ) → IsIn t parent place a → slice_get (branch t.branches (parent_of a)).inside (place_of a) ≡ Some (item.Element id) → element_at t.branches a ≡ Some id
in-element t parent place at.Document id h is = absurd h
in-element t parent place (at.Child spot) id h is = ap element_of is
in-element t parent place (at.Contents id) other h is = absurd h

-- no such view shows an element
abbrev pub NoElement : NodeView → Type 0
NoElement view = (id : ℕ) (tag : Bor Tag) → view ≡ node.Element id tag → ⊥

-- an item in which nothing stands and that isn't found
pub record IsLeaf (t : Tree) (x : Item) : Type 0 where
  pub empty : inside t x ≡ []
  pub unfound : (s : List Step) (row : List Reach) → own_hit t s row x ≡ []

-- what is no element is one
pub leaf_shown : (t : Tree) (view : NodeView) → is_item view ≡ true → NoElement view → (x : Item) × (shown view ≡ Some x) × IsLeaf t x
leaf_shown t node.Document h other = absurd (true≢false (sym h))
leaf_shown t node.Contents h other = absurd (true≢false (sym h))
leaf_shown t (node.Doctype name public system) h other = (_, refl, record { empty = refl; unfound = λ s row. refl })
leaf_shown t (node.Element id tag) h other = absurd (other id tag refl)
leaf_shown t (node.Text runs) h other = (_, refl, record { empty = refl; unfound = λ s row. refl })
leaf_shown t (node.Comment text) h other = (_, refl, record { empty = refl; unfound = λ s row. refl })
