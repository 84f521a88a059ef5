-- Numbers that rise where lists go behind others, where they fit.
use Rattle.std.specs.Prelude.{ℕ, ◌+◌, ◌<◌, ◌^◌}
use Rattle.hp_store.specs.Store.{Element as ElementOf}
use Rattle.hp_store.specs.declared.node.Counts.{Counts}
use Rattle.hp_store.specs.declared.node.Kind.{Kind}
use Rattle.hp_store.specs.declared.node.Kind.TheVariants.{End, Element, Leaf}
use Rattle.hp_store.specs.declared.node.Node.{Node}

-- the number in a kind with what is added to it
abbrev pub raised_kind : Counts → Kind → Kind
raised_kind rise (End id) = End (id + rise.elements)
raised_kind rise (Element id) = Element (id + rise.elements)
raised_kind rise (Leaf number) = Leaf (number + rise.leaves)

-- a node with what is added to its numbers
abbrev pub raised_node : Counts → Node → Node
raised_node rise n = record { prev = n.prev + rise.nodes; next = n.next + rise.nodes; kind = raised_kind rise n.kind }

-- an element with what is added to its node
abbrev pub raised_element : ℕ → ElementOf → ElementOf
raised_element by e = record { tag = e.tag; node = e.node + by }

-- the raised number fits its type
abbrev pub KindFits : Counts → Kind → Type 0
KindFits rise (End id) = id + rise.elements < 2 ^ 32
KindFits rise (Element id) = id + rise.elements < 2 ^ 32
KindFits rise (Leaf number) = number + rise.leaves < 2 ^ 32

-- the raised numbers of a node fit their type
pub record NodeFits (rise : Counts) (n : Node) : Type 0 where
  pub prev : n.prev + rise.nodes < 2 ^ 32
  pub next : n.next + rise.nodes < 2 ^ 32
  pub kind : KindFits rise n.kind
