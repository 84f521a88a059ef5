-- A whole tree, after a leaf was put at a place, or a text got more.
use Rattle.std.proofs.Common.{◌≡◌, ℕ, ◌+◌, ◌<◌, List, [], ◌∷◌, ◌++◌, false, length, sym, ap, ◌∙◌, subst}
use Rattle.std.proofs.lemmas.List.{length-append}
use Rattle.hp_arena.proofs.Shapes.{AreLeaves}
use Rattle.hp_control.specs.Tree.{Item, put, is_element}
use Rattle.hp_control.specs.declared.edit.Place.{Place}
use Rattle.hp_arena.specs.Ring.{inserted}
use Rattle.hp_arena.specs.Nodes.{links_of, IsRelinked}
use Rattle.hp_arena.specs.Shape.{IsSound, IsTree, IsLeafAdded, IsPlaceIn, at_of, branches_of, item_of, items_in, seen, with_leaf}
use Rattle.hp_store.specs.declared.node.Node.{Node}
use Rattle.hp_store.specs.declared.part.Leaf.{Leaf as LeafOf}
use Rattle.hp_arena.specs.declared.arena.Arena.TheInside.{Inside}
use Rattle.hp_arena.proofs.Glue.{tree_in}
use Rattle.hp_arena.proofs.Intos.{StaysApart}
use Rattle.hp_store.specs.Leaves.{leaf_item, leaf_items}
use Rattle.hp_store.specs.Lists.{alone}
use Rattle.hp_store.specs.Store.{Stored}
use Rattle.hp_store.specs.declared.node.Kind.TheVariants as kind
use Rattle.hp_arena.specs.Arena.{Seen}
use Rattle.hp_arena.proofs.Items.{length-leaf_items, leaves-plain, AreLeaves-push, leaf-no_element, leaf_items-push}
use Rattle.hp_arena.proofs.Places.{at-in}
use Rattle.hp_arena.proofs.Texts.{IsTree-put_leaf, branches-put_leaf}

-- the item of the node before the place
abbrev pub before_item : Inside → Place → Item
before_item a place = item_of a.store.nodes (items_in a) ((links_of a.store.nodes).prev (at_of a.store.nodes a.store.elements place))

pub at-below : (a : Inside) → IsSound a → (place : Place) → IsPlaceIn (length a.store.elements) place → at_of a.store.nodes a.store.elements place < length a.store.nodes
at-below a sound place h = at-in a.store.nodes a.store.elements (length a.store.leaves) sound.tree place h

module _ (a : Inside) (sound : IsSound a) (place : Place) (h : IsPlaceIn (length a.store.elements) place) (new : List Node) (x : Item) (leaf-like : (id : ℕ) → is_element id x ≡ false)
    (added : IsLeafAdded a.store.nodes new (length a.store.leaves) (at_of a.store.nodes a.store.elements place)) where
  all-plain : AreLeaves (items_in a ++ x ∷ [])
  all-plain = AreLeaves-push (items_in a) x (leaves-plain a.store.leaves) leaf-like

  relinked : IsRelinked (with_leaf a.store.nodes (length (items_in a))) new (inserted (links_of (with_leaf a.store.nodes (length (items_in a)))) (at_of a.store.nodes a.store.elements place) (length a.store.nodes))
  relinked =
      subst (λ n. IsRelinked (with_leaf a.store.nodes n) new (inserted (links_of (with_leaf a.store.nodes n)) (at_of a.store.nodes a.store.elements place) (length a.store.nodes)))
      (sym (length-leaf_items a.store.leaves)) added

  pub IsTree-added : (leaf : LeafOf) → IsTree new a.store.elements (length (a.store.leaves ++ leaf ∷ []))
  IsTree-added leaf =
      let count : length (items_in a ++ x ∷ []) ≡ length (a.store.leaves ++ leaf ∷ []) =
      length-append (items_in a) (x ∷ []) ∙ ap (λ n. n + 1) (length-leaf_items a.store.leaves) ∙ sym (length-append a.store.leaves (leaf ∷ [])) in
      subst (λ n. IsTree new a.store.elements n) count (IsTree-put_leaf a.store.nodes new a.store.elements (items_in a) x (tree_in a sound) place all-plain h relinked)

  pub branches-added : StaysApart (before_item a place) x → branches_of new a.store.elements (items_in a ++ x ∷ []) ≡ put (seen a).branches x place
  branches-added stays = branches-put_leaf a.store.nodes new a.store.elements (items_in a) x (tree_in a sound) place all-plain h relinked stays

pub length-added : (old new : List Node) (number at : ℕ) → IsLeafAdded old new number at → length new ≡ length old + 1
length-added old new number at added = added.same.count ∙ length-append old (alone (length old) (kind.Leaf number) ∷ [])

-- a leaf was put before the node that a place leads to
module _ (a : Inside) (sound : IsSound a) (s : Seen) (view : seen a ≡ s) (place : Place) (h : IsPlaceIn (length a.store.elements) place) (at : ℕ) (found : at ≡ at_of a.store.nodes a.store.elements place) where
  pub at-there : at < length a.store.nodes
  at-there = subst (λ n. n < length a.store.nodes) (sym found) (at-below a sound place h)

  module _ (t : Stored) (leaf : LeafOf) (added : IsLeafAdded a.store.nodes t.nodes (length a.store.leaves) at) (elements : t.elements ≡ a.store.elements) (leaves : t.leaves ≡ a.store.leaves ++ leaf ∷ []) where
    there : IsLeafAdded a.store.nodes t.nodes (length a.store.leaves) (at_of a.store.nodes a.store.elements place)
    there = subst (λ n. IsLeafAdded a.store.nodes t.nodes (length a.store.leaves) n) found added

    pub tree-leaf : IsTree t.nodes t.elements (length t.leaves)
    tree-leaf =
        subst (λ es. IsTree t.nodes es (length t.leaves)) (sym elements)
        (subst (λ ls. IsTree t.nodes a.store.elements (length ls)) (sym leaves) (IsTree-added a sound place h t.nodes (leaf_item leaf) (λ id. leaf-no_element id leaf) there leaf))

    pub count-leaf : length t.nodes ≡ length a.store.nodes + 1
    count-leaf = length-added a.store.nodes t.nodes (length a.store.leaves) at added

    pub branches-leaf : StaysApart (before_item a place) (leaf_item leaf) → branches_of t.nodes t.elements (leaf_items t.leaves) ≡ put s.branches (leaf_item leaf) place
    branches-leaf stays =
        ap (λ es. branches_of t.nodes es (leaf_items t.leaves)) elements
        ∙ ap (λ ls. branches_of t.nodes a.store.elements (leaf_items ls)) leaves
        ∙ ap (branches_of t.nodes a.store.elements) (leaf_items-push a.store.leaves leaf)
        ∙ branches-added a sound place h t.nodes (leaf_item leaf) (λ id. leaf-no_element id leaf) there stays
        ∙ ap (λ r. put r.branches (leaf_item leaf) place) view
