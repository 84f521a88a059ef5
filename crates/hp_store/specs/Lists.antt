-- Reads and writes in lists of nodes, elements and leaves.
use Rattle.std.specs.Prelude.{ℕ, ◌+◌, List, [], ◌∷◌, length, Option, None, Some, slice_index_or, slice_set}
use Rattle.hp_elements.specs.declared.tag.Tag.{Tag}
use Rattle.hp_store.specs.declared.node.Kind.{Kind}
use Rattle.hp_store.specs.declared.node.Kind.TheVariants.{End, Element, Leaf}
use Rattle.hp_store.specs.declared.node.Node.{Node}
use Rattle.hp_store.specs.declared.node.Side.{Side}
use Rattle.hp_store.specs.declared.node.Side.TheVariants.{Next, Prev}
use Rattle.hp_store.specs.declared.part.Leaf.{Leaf as LeafOf}
use Rattle.hp_store.specs.declared.part.Leaf.TheVariants.{Text}
use Rattle.hp_store.specs.Store.{Element as ElementOf}

-- what stands past the last node
abbrev pub blank : Node
blank = record { prev = 0; next = 0; kind = End 0 }

-- the node at this place
abbrev pub node_at : List Node → ℕ → Node
node_at nodes at = slice_index_or nodes at blank

-- a node with another on this side
abbrev pub node_linked : Side → Node → ℕ → Node
node_linked Next n to = record n { next = to }
node_linked Prev n to = record n { prev = to }

-- the nodes with another on this side of the one at this place
abbrev pub with_link : Side → List Node → ℕ → ℕ → List Node
with_link side nodes at to = slice_set nodes at (node_linked side (node_at nodes at) to)

-- the nodes with another after the one at this place
abbrev pub with_next : List Node → ℕ → ℕ → List Node
with_next nodes at to = with_link Next nodes at to

-- the nodes with another before the one at this place
abbrev pub with_prev : List Node → ℕ → ℕ → List Node
with_prev nodes at to = with_link Prev nodes at to

-- the nodes with the second put after the first
abbrev pub linked : List Node → ℕ → ℕ → List Node
linked nodes first second = with_prev (with_next nodes first second) second first

-- the nodes with one put between another and the one before that
abbrev pub put_between : List Node → ℕ → ℕ → List Node
put_between nodes at node = linked (linked nodes (node_at nodes at).prev node) node at

-- a node in no list of children, at this place and of this kind
abbrev pub alone : ℕ → Kind → Node
alone at kind = record { prev = at; next = at; kind = kind }

-- the node and the end of an element of this id, in no list of children
abbrev pub element_nodes : ℕ → ℕ → List Node
element_nodes at id = alone at (Element id) ∷ alone (at + 1) (End id) ∷ []

-- the node of a leaf of this number, in no list of children
abbrev pub leaf_nodes : ℕ → ℕ → List Node
leaf_nodes at number = alone at (Leaf number) ∷ []

-- what stands past the last element
abbrev pub no_element : ElementOf
no_element = record { tag = None; node = 0 }

-- the document, which has no tag; its node is the first
abbrev pub document : ElementOf
document = record { tag = None; node = 0 }

-- the node of the element of this id
abbrev pub node_of : List ElementOf → ℕ → ℕ
node_of elements id = (slice_index_or elements id no_element).node

-- the tag of the element of this id
abbrev pub tag_at : List ElementOf → ℕ → Option Tag
tag_at elements id = (slice_index_or elements id no_element).tag

-- the elements with this tag at one of them
abbrev pub with_tag_at : List ElementOf → ℕ → Option Tag → List ElementOf
with_tag_at elements id tag = slice_set elements id (record { tag = tag; node = node_of elements id })

-- how many attributes the tag has
abbrev pub attribute_count : Option Tag → ℕ
attribute_count None = 0
attribute_count (Some tag) = length tag.attributes

-- what stands past the last leaf
abbrev pub no_leaf : LeafOf
no_leaf = Text []

-- the leaf of this number
abbrev pub leaf_at : List LeafOf → ℕ → LeafOf
leaf_at leaves number = slice_index_or leaves number no_leaf
