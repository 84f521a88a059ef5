-- What a part of the lists stands for, and what its calls leave alone.
use Rattle.std.specs.Prelude.{◌≡◌, ℕ, ◌-◌, ◌<◌, ◌≤◌, List, [], ◌∷◌, length, map, vec_len, vec_capacity}
use Rattle.hp_store.specs.declared.node.Counts.{Counts}
use Rattle.hp_store.specs.declared.node.Node.{Node}
use Rattle.hp_store.specs.declared.part.Leaf.{Leaf as LeafOf}
use Rattle.hp_store.specs.declared.part.Part.{Part}
use Rattle.hp_store.specs.Store.{Free, Element as ElementOf, HasFree, KeepsFree}
use Rattle.hp_store.specs.Lists.{node_at, put_between}
use Rattle.hp_store.specs.Grafting.{raised_node}
use Rattle.hp_store.specs.Numbers.{element_in, sum_of}

-- the nodes of a part, as they are in the whole
abbrev pub part_nodes : Part → List Node
part_nodes p = map (raised_node p.before) p.nodes.items

-- the elements of a part, as they are in the whole
abbrev pub part_elements : Part → List ElementOf
part_elements p = map (element_in p.before.nodes) p.elements.items

-- the leaves of a part
abbrev pub part_leaves : Part → List LeafOf
part_leaves p = p.leaves.items

-- how much there is in a part
abbrev pub size_of : Part → Counts
size_of p = record { nodes = length p.nodes.items; elements = length p.elements.items; leaves = length p.leaves.items }

-- how much comes before the end of a part
abbrev pub end_of : Part → Counts
end_of p = sum_of p.before (size_of p)

-- the parts stand one after the other, and so much comes before the first
abbrev pub AreLaid : Counts → List Part → Type 0
AreLaid before [] = Unit {0}
AreLaid before (p ∷ ps) = (p.before ≡ before) × AreLaid (end_of p) ps

-- a part behind so much more
abbrev pub moved_part : Counts → Part → Part
moved_part more p = record p { before = sum_of more p.before }

-- how much more a part has memory for
abbrev pub free_of : Part → Free
free_of p = record {
  nodes = vec_capacity p.nodes - vec_len p.nodes;
  elements = vec_capacity p.elements - vec_len p.elements;
  leaves = vec_capacity p.leaves - vec_len p.leaves;
}

-- the node at this place of the whole stands in this part
pub record HasNode (p : Part) (at : ℕ) : Type 0 where
  pub from : p.before.nodes ≤ at
  pub to : at < (end_of p).nodes

-- the element of this id stands in this part
pub record HasElement (p : Part) (id : ℕ) : Type 0 where
  pub from : p.before.elements < id
  pub to : id ≤ (end_of p).elements

-- the leaf of this number stands in this part
pub record HasLeaf (p : Part) (number : ℕ) : Type 0 where
  pub from : p.before.leaves ≤ number
  pub to : number < (end_of p).leaves

-- it doesn't stand in this part
abbrev pub LacksNode : Part → ℕ → Type 0
LacksNode p at = HasNode p at → ⊥

-- it doesn't stand in this part
abbrev pub LacksElement : Part → ℕ → Type 0
LacksElement p id = HasElement p id → ⊥

-- it doesn't stand in this part
abbrev pub LacksLeaf : Part → ℕ → Type 0
LacksLeaf p number = HasLeaf p number → ⊥

-- a part with nothing in it, so much before it, and this room
pub record IsFresh (p : Part) (first : Counts) (room : ℕ) : Type 0 where
  pub before : p.before ≡ first
  pub nodes : p.nodes.items ≡ []
  pub elements : p.elements.items ≡ []
  pub leaves : p.leaves.items ≡ []
  pub free : HasFree (free_of p) room

-- a part out of which all was taken: it begins where it ended, with at least as much room
pub record IsEmptied (old new : Part) : Type 0 where
  pub before : new.before ≡ end_of old
  pub nodes : new.nodes.items ≡ []
  pub elements : new.elements.items ≡ []
  pub leaves : new.leaves.items ≡ []
  pub free : KeepsFree (free_of old) (free_of new)

-- the same items, with at least as much room behind them
pub record IsWider (old new : Part) : Type 0 where
  pub before : new.before ≡ old.before
  pub nodes : new.nodes.items ≡ old.nodes.items
  pub elements : new.elements.items ≡ old.elements.items
  pub leaves : new.leaves.items ≡ old.leaves.items
  pub free : KeepsFree (free_of old) (free_of new)

-- the same items
pub record SameItems (old new : Part) : Type 0 where
  pub before : new.before ≡ old.before
  pub nodes : new.nodes.items ≡ old.nodes.items
  pub elements : new.elements.items ≡ old.elements.items
  pub leaves : new.leaves.items ≡ old.leaves.items

-- other nodes in the same places, and all else as it was
pub record KeepsNodesAside (old new : Part) : Type 0 where
  pub before : new.before ≡ old.before
  pub count : length new.nodes.items ≡ length old.nodes.items
  pub elements : new.elements ≡ old.elements
  pub leaves : new.leaves ≡ old.leaves
  pub free : free_of new ≡ free_of old

-- other elements in the same places, and all else as it was
pub record KeepsElementsAside (old new : Part) : Type 0 where
  pub before : new.before ≡ old.before
  pub count : length new.elements.items ≡ length old.elements.items
  pub nodes : new.nodes ≡ old.nodes
  pub leaves : new.leaves ≡ old.leaves
  pub free : free_of new ≡ free_of old

-- other leaves in the same places, and all else as it was
pub record KeepsLeavesAside (old new : Part) : Type 0 where
  pub before : new.before ≡ old.before
  pub count : length new.leaves.items ≡ length old.leaves.items
  pub nodes : new.nodes ≡ old.nodes
  pub elements : new.elements ≡ old.elements
  pub free : free_of new ≡ free_of old

-- one node is put between another and the one before that, which are all there
pub record IsPutBetween (old new : List Node) (at node : ℕ) : Type 0 where
  pub at_in : at < length old
  pub node_in : node < length old
  pub before_in : (node_at old at).prev < length old
  pub nodes : new ≡ put_between old at node
