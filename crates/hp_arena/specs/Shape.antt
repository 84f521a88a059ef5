-- What the nodes, elements and leaves mean, and the facts that tie them.
use Rattle.std.specs.List.{list_any}
use Rattle.std.specs.Prelude.{◌≡◌, ◌≢◌, ◌==◌, if◌then◌else◌, Bool, true, false, ℕ, ◌+◌, ◌*◌, ◌^◌, ◌<◌, ◌≤◌, ◌++◌, List, [], ◌∷◌, length, map, All, slice_index_or, vec_len}
use Rattle.hp_control.specs.Tree.{Branch, Item, Tree, id_of}
use Rattle.hp_control.specs.Tree as item
use Rattle.hp_control.specs.declared.edit.Place.{Place}
use Rattle.hp_control.specs.declared.edit.Place.TheVariants.{Into, Foster}
use Rattle.hp_store.specs.Leaves.{leaf_items, run_count, IsCell}
use Rattle.hp_store.specs.Lists.{alone, attribute_count, leaf_at, node_of, tag_at}
use Rattle.hp_store.specs.Store.{Element as ElementOf}
use Rattle.hp_store.specs.declared.node.Node.{Node}
use Rattle.hp_store.specs.declared.node.Kind.{Kind}
use Rattle.hp_store.specs.declared.node.Kind.TheVariants.{End, Element, Leaf}
use Rattle.hp_arena.specs.Arena.{Placed, Seen}
use Rattle.hp_arena.specs.declared.arena.Arena.TheInside.{Inside}
use Rattle.hp_arena.specs.Nodes.{kind_of, links_of, stops, inside, IsClosed, IsRinged, IsRing, IsRelinked}
use Rattle.hp_arena.specs.Ring.{inserted}

-- what a leaf past the last one would be
abbrev pub no_item : Item
no_item = item.Text []

-- what a node of this kind is among children, where the leaves are these items
abbrev pub kind_item : List Item → Kind → Item
kind_item leaves (End id) = item.Element id
kind_item leaves (Element id) = item.Element id
kind_item leaves (Leaf number) = slice_index_or leaves number no_item

abbrev pub item_of : List Node → List Item → ℕ → Item
item_of nodes leaves s = kind_item leaves (kind_of nodes s)

abbrev pub branch_of : List Node → List Item → ElementOf → Branch
branch_of nodes leaves e = record { tag = e.tag; inside = map (item_of nodes leaves) (inside nodes (e.node + 1)) }

abbrev pub branches_of : List Node → List ElementOf → List Item → Tree
branches_of nodes elements leaves = map (branch_of nodes leaves) elements

-- the node before which a child at this place goes
abbrev pub at_of : List Node → List ElementOf → Place → ℕ
at_of nodes elements (Into parent) = node_of elements (id_of parent) + 1
at_of nodes elements (Foster table above) =
    if (links_of nodes).next (node_of elements (id_of table)) == node_of elements (id_of table)
    then node_of elements (id_of above) + 1
    else node_of elements (id_of table)

-- the numbers in a kind lead to what is there, and an element's node is its own
abbrev pub IsAtHome : List ElementOf → ℕ → ℕ → Kind → Type 0
IsAtHome elements leaves s (End id) = id < length elements
IsAtHome elements leaves s (Element id) = (id < length elements) × (node_of elements id ≡ s)
IsAtHome elements leaves s (Leaf number) = number < leaves

-- the node stands among the children of an element
abbrev pub IsListed : List Node → List ElementOf → ℕ → Type 0
IsListed nodes elements s = (id : ℕ) × ((id < length elements) × (list_any (λ y. s == y) (inside nodes (node_of elements id + 1)) ≡ true))

-- the nodes form the lists of children of these elements
pub record IsTree (nodes : List Node) (elements : List ElementOf) (leaves : ℕ) : Type 0 where
  pub closed : IsClosed nodes
  pub ringed : IsRinged nodes
  pub ring : (id : ℕ) → id < length elements → IsRing nodes (node_of elements id + 1)
  pub end_in : (id : ℕ) → id < length elements → node_of elements id + 1 < length nodes
  pub element : (id : ℕ) → id < length elements → kind_of nodes (node_of elements id) ≡ Element id
  pub end : (id : ℕ) → id < length elements → kind_of nodes (node_of elements id + 1) ≡ End id
  pub home : (s : ℕ) → s < length nodes → IsAtHome elements leaves s (kind_of nodes s)
  pub leaf_once : (s r number : ℕ) → kind_of nodes s ≡ Leaf number → kind_of nodes r ≡ Leaf number → s ≡ r
  pub listed : (s : ℕ) → stops nodes s ≡ false → (links_of nodes).next s ≢ s → IsListed nodes elements s
  pub root : 0 < length elements → (links_of nodes).next (node_of elements 0) ≡ node_of elements 0

abbrev pub is_text : Item → Bool
is_text (item.Element id) = false
is_text (item.Text text) = true
is_text (item.Comment text) = false
is_text (item.Doctype name public system) = false

-- the nodes with one more that is this leaf
abbrev pub with_leaf : List Node → ℕ → List Node
with_leaf nodes number = nodes ++ alone (length nodes) (Leaf number) ∷ []

-- the new nodes have one more that is this leaf and stands before the node `at`
abbrev pub IsLeafAdded : List Node → List Node → ℕ → ℕ → Type 0
IsLeafAdded old new number at = IsRelinked (with_leaf old number) new (inserted (links_of (with_leaf old number)) at (length old))

-- there is room for so many edits
pub record HasRoom (a : Inside) : Type 0 where
  pub nodes : 2 * a.spare ≤ a.store.free.nodes
  pub elements : a.spare ≤ a.store.free.elements
  pub leaves : a.spare ≤ a.store.free.leaves
  pub numbers : length a.store.nodes + 2 * a.spare < 2 ^ 32
  pub ids : length a.store.elements + a.spare < 2 ^ 32
  pub leaf_numbers : length a.store.leaves + a.spare < 2 ^ 32
  pub runs : (number : ℕ) → run_count (leaf_at a.store.leaves number) ≤ a.used
  pub attributes : (id : ℕ) → attribute_count (tag_at a.store.elements id) ≤ a.used
  pub used : a.used + a.spare < 2 ^ 62
  pub cells : a.spare ≤ vec_len a.cells
  pub cell : All IsCell a.cells.items

-- a node with what a reader keeps of it
abbrev pub placed : List Node → ℕ → Placed
placed nodes s = record { node = s; next = (links_of nodes).next s; kind = kind_of nodes s }

-- the nodes in each list of children
abbrev pub order_of : List Node → List ElementOf → List (List Placed)
order_of nodes elements = map (λ e. map (placed nodes) (inside nodes (e.node + 1))) elements

-- what the leaves are among children
abbrev pub items_in : Inside → List Item
items_in a = leaf_items a.store.leaves

-- the lists are those of a tree, whose document is the first element and the first node
pub record IsSound (a : Inside) : Type 0 where
  pub document : 0 < length a.store.elements
  pub first : node_of a.store.elements 0 ≡ 0
  pub tree : IsTree a.store.nodes a.store.elements (length a.store.leaves)
  pub room : HasRoom a

abbrev pub seen : Inside → Seen
seen a = record { branches = branches_of a.store.nodes a.store.elements (items_in a); spare = a.spare; order = order_of a.store.nodes a.store.elements }

-- all that a place names is among so many elements
abbrev pub IsPlaceIn : ℕ → Place → Type 0
IsPlaceIn elements (Into parent) = id_of parent < elements
IsPlaceIn elements (Foster table above) = (id_of table < elements) × (id_of above < elements)

-- the ends of all elements are among so many nodes, and numbers fit
pub record AreNodesIn (elements : List ElementOf) (count : ℕ) : Type 0 where
  pub few_nodes : count < 2 ^ 32
  pub few_elements : length elements < 2 ^ 32
  pub ends : (id : ℕ) → id < length elements → node_of elements id + 1 < count
