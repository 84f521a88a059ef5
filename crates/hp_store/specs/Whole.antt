-- The lists that parts make, one after the other.
use Rattle.std.specs.Prelude.{◌≡◌, ℕ, ◌+◌, ◌*◌, ◌^◌, ◌<◌, ◌≤◌, ◌++◌, List, [], ◌∷◌, length, slice_index_or}
use Rattle.std.specs.List.{flat_map}
use Rattle.hp_store.specs.declared.node.Node.{Node}
use Rattle.hp_store.specs.declared.part.Leaf.{Leaf as LeafOf}
use Rattle.hp_store.specs.declared.part.Part.{Part}
use Rattle.hp_store.specs.declared.store.Store.TheInside.{Inside}
use Rattle.hp_store.specs.Numbers.{no_counts, Fits}
use Rattle.hp_store.specs.Lists.{document}
use Rattle.hp_store.specs.Parts.{part_nodes, part_elements, part_leaves, end_of, free_of, AreLaid}
use Rattle.hp_store.specs.Store.{Element as ElementOf, Stored, KeepsFree}
use Rattle.hp_store.specs.Grafting.{retired}

-- the nodes of the finished parts, then those of the part that grows
abbrev pub all_nodes : List Part → Part → List Node
all_nodes parts last = flat_map part_nodes parts ++ part_nodes last

-- the elements of the parts, which the document isn't among
abbrev pub own_elements : List Part → Part → List ElementOf
own_elements parts last = flat_map part_elements parts ++ part_elements last

-- the leaves of the finished parts, then those of the part that grows
abbrev pub all_leaves : List Part → Part → List LeafOf
all_leaves parts last = flat_map part_leaves parts ++ part_leaves last

-- what contracts see of these parts
abbrev pub seen : Inside → Stored
seen s = record {
  nodes = all_nodes s.parts.items s.last;
  elements = document ∷ own_elements s.parts.items s.last;
  leaves = all_leaves s.parts.items s.last;
  free = free_of s.last;
}

-- the part of this number, where the one that grows stands behind the finished ones
abbrev pub part_of : List Part → Part → ℕ → Part
part_of parts last number = slice_index_or parts number last

-- an element has two nodes, and a leaf has one
abbrev pub IsFilled : Part → Type 0
IsFilled p = 2 * length p.elements.items + length p.leaves.items ≤ length p.nodes.items

-- the parts stand one after the other from nothing on, the first node is there, and numbers fit
pub record IsSound (s : Inside) : Type 0 where
  pub laid : AreLaid no_counts (s.parts.items ++ s.last ∷ [])
  pub fits : Fits (end_of s.last)
  pub few : length s.parts.items < 2 ^ 32
  pub first : 0 < length (part_of s.parts.items s.last 0).nodes.items
  pub filled : IsFilled s.last

-- the finished parts before this one have other nodes in the same places, and all else as it was
pub record KeepsPartsAside (last : Part) (old new : List Part) : Type 0 where
  pub laid : AreLaid no_counts (new ++ last ∷ [])
  pub count : length new ≡ length old
  pub elements : flat_map part_elements new ≡ flat_map part_elements old
  pub leaves : flat_map part_leaves new ≡ flat_map part_leaves old
  pub first : length (part_of new last 0).nodes.items ≡ length (part_of old last 0).nodes.items

-- all that was there stands in finished parts, and what grows has nothing in it and at least as much room
pub record IsFinished (parts : List Part) (last : Part) (finished : List Part) (fresh : Part) : Type 0 where
  pub laid : AreLaid no_counts (finished ++ fresh ∷ [])
  pub before : fresh.before ≡ end_of last
  pub nodes : flat_map part_nodes finished ≡ all_nodes parts last
  pub elements : flat_map part_elements finished ≡ own_elements parts last
  pub leaves : flat_map part_leaves finished ≡ all_leaves parts last
  pub no_nodes : fresh.nodes.items ≡ []
  pub no_elements : fresh.elements.items ≡ []
  pub no_leaves : fresh.leaves.items ≡ []
  pub free : KeepsFree (free_of last) (free_of fresh)
  pub few : length finished ≤ length parts + 1
  pub first : (part_of finished fresh 0).nodes.items ≡ (part_of parts last 0).nodes.items

-- the document's node is an end of no list, and all else is as it was
pub record IsRetired (parts : List Part) (last : Part) (retired_parts : List Part) (retired_last : Part) : Type 0 where
  pub laid : AreLaid no_counts (retired_parts ++ retired_last ∷ [])
  pub end : end_of retired_last ≡ end_of last
  pub count : length retired_parts ≡ length parts
  pub nodes : all_nodes retired_parts retired_last ≡ retired (all_nodes parts last) 0
  pub elements : own_elements retired_parts retired_last ≡ own_elements parts last
  pub leaves : all_leaves retired_parts retired_last ≡ all_leaves parts last
