-- Numbers that rise where lists go behind others. They wrap past 32 bits.
use Rattle.std.specs.Prelude.{◌≡◌, ℕ, ◌-◌, ◌++◌, List, length, map, drop, slice_set}
use Rattle.hp_store.specs.declared.node.Counts.{Counts}
use Rattle.hp_store.specs.declared.node.Kind.{Kind}
use Rattle.hp_store.specs.declared.node.Kind.TheVariants.{End, Element, Leaf}
use Rattle.hp_store.specs.declared.node.Node.{Node}
use Rattle.hp_store.specs.Store.{Element as ElementOf, Stored}
use Rattle.hp_store.specs.Lists.{node_at}
use Rattle.hp_store.specs.Numbers.{counted}

-- how many nodes, elements other than the document and leaves there are
abbrev pub counts_of : Stored → Counts
counts_of s = record { nodes = length s.nodes; elements = length s.elements - 1; leaves = length s.leaves }

-- a kind whose number counts on from what comes before
abbrev pub raised_kind : Counts → Kind → Kind
raised_kind rise (End id) = End (counted rise.elements id)
raised_kind rise (Element id) = Element (counted rise.elements id)
raised_kind rise (Leaf number) = Leaf (counted rise.leaves number)

-- a node whose numbers count on from what comes before
abbrev pub raised_node : Counts → Node → Node
raised_node rise n = record { prev = counted rise.nodes n.prev; next = counted rise.nodes n.next; kind = raised_kind rise n.kind }

-- an element whose node counts on from what comes before
abbrev pub raised_element : ℕ → ElementOf → ElementOf
raised_element by e = record { tag = e.tag; node = counted by e.node }

-- the nodes with one that is an end of no list
abbrev pub retired : List Node → ℕ → List Node
retired nodes at = slice_set nodes at (record { prev = (node_at nodes at).prev; next = (node_at nodes at).next; kind = End 0 })

-- the other's nodes and leaves, and its elements but the document, come behind with their numbers raised
pub record IsAppended (old other new : Stored) : Type 0 where
  pub nodes : new.nodes ≡ old.nodes ++ map (raised_node (counts_of old)) (retired other.nodes 0)
  pub elements : new.elements ≡ old.elements ++ map (raised_element (length old.nodes)) (drop 1 other.elements)
  pub leaves : new.leaves ≡ old.leaves ++ other.leaves
