-- The facts of a whole tree, once its nodes have other links.
use Rattle.std.proofs.Common.{◌≡◌, ℕ, ◌+◌, ◌*◌, ◌^◌, ◌<◌, ◌&&◌, Bool, true, false, length, List, sym, ap, ◌∙◌, subst, arith, refl}
use Rattle.std.proofs.lemmas.List.{length-map}
use Rattle.std.proofs.lemmas.Bool.{true≢false}
use Rattle.hp_control.specs.Tree.{Tree, is_place, is_there, id_of}
use Rattle.hp_control.specs.declared.edit.Place.{Place}
use Rattle.hp_control.specs.declared.edit.Place.TheVariants.{Into, Foster}
use Rattle.hp_control.specs.declared.edit.Ref.{Ref}
use Rattle.hp_control.specs.declared.edit.Ref.TheVariants.{Fixed, Older, Own}
use Rattle.hp_arena.specs.Arena.{Seen}
use Rattle.hp_arena.specs.Shape.{IsSound, IsTree, seen, branch_of, items_in, AreNodesIn, IsPlaceIn}
use Rattle.hp_arena.specs.Nodes.{SameKinds}
use Rattle.hp_store.specs.declared.node.Node.{Node}
use Rattle.hp_store.specs.Store.{Element as ElementOf}
use Rattle.hp_arena.specs.declared.arena.Arena.TheInside.{Inside}
use Rattle.hp_arena.proofs.Items.{length-leaf_items}

-- the tree with other nodes
abbrev pub with_nodes : Inside → List Node → Inside
with_nodes a nodes = record a { store = record a.store { nodes = nodes } }

-- the tree, where leaves are counted by their items
pub tree_in : (a : Inside) → IsSound a → IsTree a.store.nodes a.store.elements (length (items_in a))
tree_in a sound = subst (λ n. IsTree a.store.nodes a.store.elements n) (sym (length-leaf_items a.store.leaves)) sound.tree

pub tree_out : (a : Inside) (nodes : List Node) (elements : List ElementOf) → IsTree nodes elements (length (items_in a)) → IsTree nodes elements (length a.store.leaves)
tree_out a nodes elements t = subst (λ n. IsTree nodes elements n) (length-leaf_items a.store.leaves) t

pub IsSound-relinked : (a : Inside) (nodes : List Node) → IsSound a → SameKinds a.store.nodes nodes → IsTree nodes a.store.elements (length a.store.leaves) → IsSound (with_nodes a nodes)
IsSound-relinked a nodes sound same tree = record {
  document = sound.document;
  first = sound.first;
  tree = tree;
  room = record { nodes = sound.room.nodes; elements = sound.room.elements; leaves = sound.room.leaves; numbers = subst (λ n. n + 2 * a.spare < 2 ^ 32) (sym same.count) sound.room.numbers; ids = sound.room.ids; leaf_numbers = sound.room.leaf_numbers; runs = sound.room.runs; attributes = sound.room.attributes; used = sound.room.used; cells = sound.room.cells; cell = sound.room.cell };
}

pub length-branches : (a : Inside) → length (seen a).branches ≡ length a.store.elements
length-branches a = length-map a.store.elements (branch_of a.store.nodes (items_in a))

-- an id that the contract sees is an element's
pub id-below : (a : Inside) (s : Seen) (id : ℕ) → seen a ≡ s → id < length s.branches → id < length a.store.elements
id-below a s id is h = subst (λ n. id < n) (sym (ap (λ r. length r.branches) is) ∙ length-branches a) h

there-below : (t : Tree) (node : Ref) → is_there t node ≡ true → id_of node < length t
there-below t (Fixed id) h = grind (arith, h)
there-below t (Older depth) h = absurd (true≢false (sym h))
there-below t (Own number) h = absurd (true≢false (sym h))

and-first : (a b : Bool) → (a && b) ≡ true → a ≡ true
and-first true b h = refl
and-first false b h = h

and-second : (a b : Bool) → (a && b) ≡ true → b ≡ true
and-second true b h = h
and-second false b h = absurd (true≢false (sym h))

place-below : (t : Tree) (place : Place) → is_place t place ≡ true → IsPlaceIn (length t) place
place-below t (Into parent) h = there-below t parent h
place-below t (Foster table above) h =
    (there-below t table (and-first (is_there t table) (is_there t above) h), there-below t above (and-second (is_there t table) (is_there t above) h))

-- a place that the contract sees is there
pub place-in : (a : Inside) (s : Seen) (place : Place) → seen a ≡ s → is_place s.branches place ≡ true → IsPlaceIn (length a.store.elements) place
place-in a s place is h = subst (λ n. IsPlaceIn n place) (sym (ap (λ r. length r.branches) is) ∙ length-branches a) (place-below s.branches place h)

pub nodes-in : (a : Inside) → IsSound a → AreNodesIn a.store.elements (length a.store.nodes)
nodes-in a sound = record { few_nodes = omega (arith, sound.room.numbers); few_elements = omega (arith, sound.room.ids); ends = sound.tree.end_in }
