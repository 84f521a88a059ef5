-- Nodes with their links, and the lists of children that they make.
use Rattle.std.specs.Prelude.{◌≡◌, ℕ, zero, suc, ◌<◌, Bool, true, false, if◌then◌else◌, List, [], ◌∷◌, length}
use Rattle.hp_store.specs.Lists.{node_at}
use Rattle.hp_store.specs.declared.node.Node.{Node}
use Rattle.hp_store.specs.declared.node.Kind.{Kind}
use Rattle.hp_store.specs.declared.node.Kind.TheVariants.{End, Element, Leaf}
use Rattle.hp_arena.specs.Ring.{Links, Path}

abbrev pub kind_of : List Node → ℕ → Kind
kind_of nodes s = (node_at nodes s).kind

abbrev pub links_of : List Node → Links
links_of nodes = record { next = λ s. (node_at nodes s).next; prev = λ s. (node_at nodes s).prev }

-- as many nodes, each of the kind that it was
pub record SameKinds (old new : List Node) : Type 0 where
  pub count : length new ≡ length old
  pub kind : (s : ℕ) → kind_of new s ≡ kind_of old s

-- each link is to a node
pub record IsClosed (nodes : List Node) : Type 0 where
  pub next : (s : ℕ) → s < length nodes → (links_of nodes).next s < length nodes
  pub prev : (s : ℕ) → s < length nodes → (links_of nodes).prev s < length nodes

-- the same nodes with these links
pub record IsRelinked (old new : List Node) (links : Links) : Type 0 where
  pub links_are : links_of new ≡ links
  pub same : SameKinds old new
  pub closed : IsClosed new

abbrev pub is_end : Kind → Bool
is_end (End _) = true
is_end (Element _) = false
is_end (Leaf _) = false

-- the node at which a list of children ends, or past the last node
abbrev pub stops : List Node → ℕ → Bool
stops nodes s = is_end (kind_of nodes s)

-- the nodes from one on, up to an end, and at most so many
unfoldable pub walk : List Node → ℕ → ℕ → List ℕ
walk nodes zero s = []
walk nodes (suc left) s = if stops nodes s then [] else s ∷ walk nodes left ((links_of nodes).next s)

-- the nodes of the list of children that ends at this node
unfoldable pub inside : List Node → ℕ → List ℕ
inside nodes end = walk nodes (length nodes) ((links_of nodes).next end)

-- each node comes back to itself over the node beside it
pub record IsRinged (nodes : List Node) : Type 0 where
  pub after : (s : ℕ) → s < length nodes → (links_of nodes).prev ((links_of nodes).next s) ≡ s
  pub before : (s : ℕ) → s < length nodes → (links_of nodes).next ((links_of nodes).prev s) ≡ s

-- the list of children that ends at this node is a ring
abbrev pub IsRing : List Node → ℕ → Type 0
IsRing nodes end = Path (links_of nodes) end (inside nodes end) end

-- the end that comes after a node, where it comes after so many
unfoldable pub end_from : List Node → ℕ → ℕ → ℕ
end_from nodes zero s = s
end_from nodes (suc left) s = if stops nodes s then s else end_from nodes left ((links_of nodes).next s)
