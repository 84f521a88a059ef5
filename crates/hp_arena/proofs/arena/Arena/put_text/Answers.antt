use Rattle.std.proofs.Common.{◌≡◌, ◌<◌, ℕ, List, false, length, sym, ap, ◌∙◌, subst, arith, refl}
use Rattle.hp_control.specs.Tree as item
use Rattle.hp_control.specs.Tree.{put}
use Rattle.hp_control.specs.declared.edit.Place.{Place}
use Rattle.hp_store.specs.Leaves.{leaf_items, text_of, IsTextAdded}
use Rattle.hp_store.specs.Lists.{leaf_at, node_at}
use Rattle.hp_store.specs.Store.{Element as ElementOf, Stored}
use Rattle.hp_store.specs.declared.node.Kind.{Kind}
use Rattle.hp_store.specs.declared.node.Kind.TheVariants.{End, Element, Leaf}
use Rattle.hp_store.specs.declared.node.Node.{Node}
use Rattle.hp_store.specs.declared.part.Leaf.TheVariants.{Run}
use Rattle.hp_arena.specs.Arena.{Seen}
use Rattle.hp_arena.specs.Leaves.{IsLeafIn, is_text_leaf, IsTextAt}
use Rattle.hp_arena.specs.Nodes.{links_of, kind_of}
use Rattle.hp_arena.specs.Shape.{IsSound, IsAtHome, IsPlaceIn, at_of, branches_of, items_in, is_text, seen}
use Rattle.hp_arena.specs.declared.arena.Arena.TheInside.{Inside}
use Rattle.hp_arena.proofs.Added.{at-there, before_item, branches-leaf, count-leaf, tree-leaf}
use Rattle.hp_arena.proofs.Glue.{place-in, nodes-in, tree_in}
use Rattle.hp_arena.proofs.Items.{kind-is_text, text-before, leaves-plain}
use Rattle.hp_arena.proofs.Rooms.{IsSound-leaf, IsSound-text}
use Rattle.hp_arena.proofs.Texts.{text-apart, branches-joined}
use Rattle.hp_arena.proofs.arena.Arena.put_text.Goals as goal

leaf-in : (elements : List ElementOf) (leaves s : ℕ) (kind : Kind) → IsAtHome elements leaves s kind → IsLeafIn leaves kind
leaf-in elements leaves s (End id) h = tt
leaf-in elements leaves s (Element id) h = tt
leaf-in elements leaves s (Leaf number) h = h

-- the node before the place, as the code reads it
module _ (a : Inside) (sound : IsSound a) (s : Seen) (view : seen a ≡ s) (place : Place) (h : IsPlaceIn (length a.store.elements) place) (at : ℕ) (found : at ≡ at_of a.store.nodes a.store.elements place) (n : Node) (read : n ≡ node_at a.store.nodes at) where
  before_is : n.prev ≡ (links_of a.store.nodes).prev (at_of a.store.nodes a.store.elements place)
  before_is = ap (λ m. m.prev) read ∙ ap (λ k. (links_of a.store.nodes).prev k) found

  before_in : n.prev < length a.store.nodes
  before_in = subst (λ (m : Node). m.prev < length a.store.nodes) (sym read) (sound.tree.closed.prev at (at-there a sound s view place h at found))

  leaf_in : IsLeafIn (length a.store.leaves) (kind_of a.store.nodes n.prev)
  leaf_in = leaf-in a.store.elements (length a.store.leaves) n.prev (kind_of a.store.nodes n.prev) (sound.tree.home n.prev before_in)

  -- no text stands before it
  apart : is_text_leaf a.store.leaves (kind_of a.store.nodes n.prev) ≡ false → is_text (before_item a place) ≡ false
  apart other = kind-is_text a.store.leaves _ ∙ subst (λ k. is_text_leaf a.store.leaves (kind_of a.store.nodes k) ≡ false) before_is other

  -- or a text that got more
  joined : (t : Stored) (number : ℕ) (text : List ℕ) → IsTextAt a.store.nodes a.store.leaves n.prev number → IsTextAdded a.store.leaves t.leaves number text → t ≡ record a.store { leaves = t.leaves }
      → branches_of t.nodes t.elements (leaf_items t.leaves) ≡ put s.branches (item.Text text) place
  joined t number text here more rest =
      ap (λ (r : Stored). branches_of r.nodes r.elements (leaf_items t.leaves)) rest
      ∙ ap (branches_of a.store.nodes a.store.elements) more.items
      ∙ branches-joined a.store.nodes a.store.elements (items_in a) (tree_in a sound) number (text_of (leaf_at a.store.leaves number)) text (leaves-plain a.store.leaves) place h
      (text-before a.store.nodes a.store.leaves _ number (subst (λ k. IsTextAt a.store.nodes a.store.leaves k number) before_is here))
      ∙ ap (λ r. put r.branches (item.Text text) place) view

pub node_at-at-requires-clause-there : goal.node_at-at-requires-clause-there
node_at-at-requires-clause-there c = place-in c.self.inside c.args.self.now c.args.place c.self.view_is c.requires.there

pub node_at-at-requires-clause-closed : goal.node_at-at-requires-clause-closed
node_at-at-requires-clause-closed c = nodes-in c.self.inside c.self.invariant

pub node-before-requires : goal.node-before-requires
node-before-requires c = at-there c.self.inside c.self.invariant c.args.self.now c.self.view_is c.args.place (place-in c.self.inside c.args.self.now c.args.place c.self.view_is c.requires.there) c.node_at-at.result c.node_at-at.ensures

pub text_at-requires-clause-node_in : goal.text_at-requires-clause-node_in
text_at-requires-clause-node_in c = before_in c.self.inside c.self.invariant c.args.self.now c.self.view_is c.args.place (place-in c.self.inside c.args.self.now c.args.place c.self.view_is c.requires.there) c.node_at-at.result c.node_at-at.ensures c.node-before.result c.node-before.ensures

pub text_at-requires-clause-leaf_in : goal.text_at-requires-clause-leaf_in
text_at-requires-clause-leaf_in c = leaf_in c.self.inside c.self.invariant c.args.self.now c.self.view_is c.args.place (place-in c.self.inside c.args.self.now c.args.place c.self.view_is c.requires.there) c.node_at-at.result c.node_at-at.ensures c.node-before.result c.node-before.ensures

pub add_text-requires-clause-number_in : goal.add_text-requires-clause-number_in
add_text-requires-clause-number_in c = c.in-Some.ensures.number_in

pub add_text-requires-clause-is_text : goal.add_text-requires-clause-is_text
add_text-requires-clause-is_text c = c.in-Some.ensures.text

pub add_text-requires-clause-room : goal.add_text-requires-clause-room
add_text-requires-clause-room c = omega (arith, c.self.invariant.room.runs c.in-Some.number, c.self.invariant.room.used)

pub add_text-requires-clause-some : goal.add_text-requires-clause-some
add_text-requires-clause-some c = omega (arith, c.self.invariant.room.cells, subst (λ s. 0 < s.spare) (sym c.self.view_is) c.requires.room)

pub add_text-requires-clause-cell : goal.add_text-requires-clause-cell
add_text-requires-clause-cell c = c.self.invariant.room.cell

pub invariant_of-self : goal.invariant_of-self
invariant_of-self c =
    IsSound-text c.self.inside _ c.in-Some.number c.args.text c.self.invariant (subst (λ s. 0 < s.spare) (sym c.self.view_is) c.requires.room) c.add_text.ensures.lists c.add_text.ensures.leaves refl refl
    (omega (arith, c.self.invariant.room.cells, c.add_text.ensures.len)) c.add_text.ensures.cell

pub returns-in-Some-clause-branches : goal.returns-in-Some-clause-branches
returns-in-Some-clause-branches c =
    joined c.self.inside c.self.invariant c.args.self.now c.self.view_is c.args.place (place-in c.self.inside c.args.self.now c.args.place c.self.view_is c.requires.there) c.node_at-at.result c.node_at-at.ensures c.node-before.result c.node-before.ensures c.add_text.new.self c.in-Some.number c.args.text c.in-Some.ensures c.add_text.ensures.leaves c.add_text.ensures.lists

pub add_leaf_between-requires-clause-at_in : goal.add_leaf_between-requires-clause-at_in
add_leaf_between-requires-clause-at_in c = at-there c.self.inside c.self.invariant c.args.self.now c.self.view_is c.args.place (place-in c.self.inside c.args.self.now c.args.place c.self.view_is c.requires.there) c.node_at-at.result c.node_at-at.ensures

pub add_leaf_between-requires-clause-before : goal.add_leaf_between-requires-clause-before
add_leaf_between-requires-clause-before c = sym (ap (λ (n : Node). n.prev) c.node-before.ensures)

pub add_leaf_between-requires-clause-closed : goal.add_leaf_between-requires-clause-closed
add_leaf_between-requires-clause-closed c = c.self.invariant.tree.closed

pub invariant_of-self-in-None : goal.invariant_of-self-in-None
invariant_of-self-in-None c =
    IsSound-leaf c.self.inside _ (Run c.args.text) c.self.invariant (subst (λ s. 0 < s.spare) (sym c.self.view_is) c.requires.room) c.add_leaf_between.ensures.elements refl (omega arith) (omega arith) (omega arith)
    (count-leaf c.self.inside c.self.invariant c.args.self.now c.self.view_is c.args.place (place-in c.self.inside c.args.self.now c.args.place c.self.view_is c.requires.there) c.node_at-at.result c.node_at-at.ensures c.add_leaf_between.new.store (Run c.args.text) c.add_leaf_between.ensures.nodes c.add_leaf_between.ensures.elements c.add_leaf_between.ensures.leaves)
    c.add_leaf_between.ensures.leaves c.add_leaf_between.ensures.nodes_left c.add_leaf_between.ensures.elements_left c.add_leaf_between.ensures.leaves_left (omega (arith, c.self.invariant.room.cells)) c.self.invariant.room.cell
    (tree-leaf c.self.inside c.self.invariant c.args.self.now c.self.view_is c.args.place (place-in c.self.inside c.args.self.now c.args.place c.self.view_is c.requires.there) c.node_at-at.result c.node_at-at.ensures c.add_leaf_between.new.store (Run c.args.text) c.add_leaf_between.ensures.nodes c.add_leaf_between.ensures.elements c.add_leaf_between.ensures.leaves)

pub returns-in-None-clause-branches : goal.returns-in-None-clause-branches
returns-in-None-clause-branches c =
    branches-leaf c.self.inside c.self.invariant c.args.self.now c.self.view_is c.args.place (place-in c.self.inside c.args.self.now c.args.place c.self.view_is c.requires.there) c.node_at-at.result c.node_at-at.ensures c.add_leaf_between.new.store (Run c.args.text) c.add_leaf_between.ensures.nodes c.add_leaf_between.ensures.elements c.add_leaf_between.ensures.leaves
    (text-apart _ c.args.text (apart c.self.inside c.self.invariant c.args.self.now c.self.view_is c.args.place (place-in c.self.inside c.args.self.now c.args.place c.self.view_is c.requires.there) c.node_at-at.result c.node_at-at.ensures c.node-before.result c.node-before.ensures c.in-None.ensures))

pub returns-in-Some-clause-spare : goal.returns-in-Some-clause-spare
returns-in-Some-clause-spare c = omega (arith, c.requires.room, ap (λ s. s.spare) c.self.view_is)

pub returns-in-None-clause-spare : goal.returns-in-None-clause-spare
returns-in-None-clause-spare c = omega (arith, c.requires.room, ap (λ s. s.spare) c.self.view_is)
