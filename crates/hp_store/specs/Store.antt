-- What contracts see of the lists of a tree.
use Rattle.std.specs.Prelude.{ℕ, ◌*◌, ◌≤◌, List, Option}
use Rattle.hp_elements.specs.declared.tag.Tag.{Tag}
use Rattle.hp_store.specs.declared.node.Node.{Node}
use Rattle.hp_store.specs.declared.part.Leaf.{Leaf}

-- how many more there is memory for
pub record Free : Type 0 where
  pub nodes : ℕ
  pub elements : ℕ
  pub leaves : ℕ

-- what contracts see of an element: its tag, which the document lacks, and its node; its children end at the node after that
pub record Element : Type 0 where
  pub tag : Option Tag
  pub node : ℕ

-- what contracts see of a `Store`; the elements stand by their ids, and the document is the first
pub record Stored : Type 0 where
  pub nodes : List Node
  pub elements : List Element
  pub leaves : List Leaf
  pub free : Free

-- there is memory for so many more elements and leaves
pub record HasFree (free : Free) (room : ℕ) : Type 0 where
  pub nodes : 2 * room ≤ free.nodes
  pub elements : room ≤ free.elements
  pub leaves : room ≤ free.leaves

-- there is at least as much memory left
pub record KeepsFree (old new : Free) : Type 0 where
  pub nodes : old.nodes ≤ new.nodes
  pub elements : old.elements ≤ new.elements
  pub leaves : old.leaves ≤ new.leaves
