-- The levels of a tree, as the links lead through it.
use Rattle.std.specs.Prelude.{ℕ, zero, suc, ◌+◌, ◌-◌, ◌^◌, List, Option, Some, None, min, max, slice_get}
use Rattle.hp_store.specs.declared.node.Node.{Node}
use Rattle.hp_store.specs.declared.node.Kind.{Kind}
use Rattle.hp_store.specs.declared.node.Kind.TheVariants.{End, Element, Leaf}

-- The node from which the way goes on behind one of this kind: an element stands right before the end of its own children.
abbrev pub onward : Kind → ℕ → ℕ
onward (Leaf number) at = at
onward (Element id) at = at + 1
onward (End id) at = at - 1

-- and the level there
abbrev pub level_after : Kind → ℕ → ℕ
level_after (Leaf number) level = level
level_after (Element id) level = level + 1
level_after (End id) level = level - 1

-- where a link leads, and to what
pub record Link : Type 0 where
  pub to : ℕ
  pub kind : Kind

abbrev pub led : ℕ → Option Node → Option Link
led to None = None
led to (Some node) = Some (record { to = to; kind = node.kind })

abbrev pub follow : List Node → Option Node → Option Link
follow nodes None = None
follow nodes (Some node) = led node.next (slice_get nodes node.next)

abbrev pub link_at : List Node → ℕ → Option Link
link_at nodes at = follow nodes (slice_get nodes at)

-- the levels of so many links together, from a node at this level on, and the deepest of them
unfoldable pub summed_from : List Node → ℕ → ℕ → ℕ → ℕ
summed_from nodes zero at level = 0
summed_from nodes (suc count) at level =
    elim (link_at nodes at) [ None ↦ 0 | Some link ↦ level + summed_from nodes count (onward link.kind link.to) (level_after link.kind level) ]

unfoldable pub deepest_from : List Node → ℕ → ℕ → ℕ → ℕ
deepest_from nodes zero at level = level
deepest_from nodes (suc count) at level =
    elim (link_at nodes at) [ None ↦ level | Some link ↦ max level (deepest_from nodes count (onward link.kind link.to) (level_after link.kind level)) ]

-- as many as 64 bits can count
abbrev pub counted : ℕ → ℕ
counted n = min n (2 ^ 64 - 1)
