-- Which nodes are leaves, and texts among them.
use Rattle.std.specs.Prelude.{◌≡◌, Bool, true, false, ℕ, ◌<◌, List, length}
use Rattle.hp_store.specs.Leaves.{is_text_of}
use Rattle.hp_store.specs.Lists.{leaf_at}
use Rattle.hp_store.specs.declared.node.Kind.{Kind}
use Rattle.hp_store.specs.declared.node.Kind.TheVariants.{End, Element, Leaf}
use Rattle.hp_store.specs.declared.node.Node.{Node}
use Rattle.hp_store.specs.declared.part.Leaf.{Leaf as LeafOf}
use Rattle.hp_arena.specs.Nodes.{kind_of}

-- a node of this kind is a text
abbrev pub is_text_leaf : List LeafOf → Kind → Bool
is_text_leaf leaves (End id) = false
is_text_leaf leaves (Element id) = false
is_text_leaf leaves (Leaf number) = is_text_of (leaf_at leaves number)

-- a kind leads to a leaf that is there, if to any
abbrev pub IsLeafIn : ℕ → Kind → Type 0
IsLeafIn leaves (End id) = Unit {0}
IsLeafIn leaves (Element id) = Unit {0}
IsLeafIn leaves (Leaf number) = number < leaves

-- the node is the leaf of this number, a text
pub record IsTextAt (nodes : List Node) (leaves : List LeafOf) (node number : ℕ) : Type 0 where
  pub leaf : kind_of nodes node ≡ Leaf number
  pub number_in : number < length leaves
  pub text : is_text_of (leaf_at leaves number) ≡ true
