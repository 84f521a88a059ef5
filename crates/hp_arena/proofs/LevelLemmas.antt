-- The levels along the links, one link after the other.
use Rattle.std.proofs.Common.{◌≡◌, ◌≤◌, ◌+◌, ◌-◌, ◌*◌, ◌^◌, ℕ, zero, suc, List, Option, Some, None, max, min, refl, ap, ◌∙◌, arith}
use Rattle.hp_store.specs.declared.node.Node.{Node}
use Rattle.hp_store.specs.declared.node.Kind.{Kind}
use Rattle.hp_store.specs.declared.node.Kind.TheVariants.{End, Element, Leaf}
use Rattle.hp_arena.specs.Levels.{Link, counted, deepest_from, level_after, link_at, onward, summed_from}

-- a link as the code tells it, with the part that it leads into
abbrev pub told : ℕ × Kind × ℕ → Link
told link = record { to = link.0; kind = link.1 }

-- a level rises by one at most
pub level_near : (kind : Kind) (level : ℕ) → level_after kind level ≤ level + 1
level_near (Leaf number) level = omega arith
level_near (Element id) level = omega arith
level_near (End id) level = omega arith

-- a link more
summed_next : (nodes : List Node) (count at level : ℕ) (link : Link) → link_at nodes at ≡ Some link
    → summed_from nodes (suc count) at level ≡ level + summed_from nodes count (onward link.kind link.to) (level_after link.kind level)
unfolding summed_from
summed_next nodes count at level link e =
    ap (λ (o : Option Link). elim o [ None ↦ 0 | Some link ↦ level + summed_from nodes count (onward link.kind link.to) (level_after link.kind level) ]) e

deepest_next : (nodes : List Node) (count at level : ℕ) (link : Link) → link_at nodes at ≡ Some link
    → deepest_from nodes (suc count) at level ≡ max level (deepest_from nodes count (onward link.kind link.to) (level_after link.kind level))
unfolding deepest_from
deepest_next nodes count at level link e =
    ap (λ (o : Option Link). elim o [ None ↦ level | Some link ↦ max level (deepest_from nodes count (onward link.kind link.to) (level_after link.kind level)) ]) e

-- no link more
pub summed_last : (nodes : List Node) (count at level : ℕ) → link_at nodes at ≡ None → summed_from nodes count at level ≡ 0
unfolding summed_from
summed_last nodes zero at level e = refl
summed_last nodes (suc count) at level e =
    ap (λ (o : Option Link). elim o [ None ↦ 0 | Some link ↦ level + summed_from nodes count (onward link.kind link.to) (level_after link.kind level) ]) e

pub deepest_last : (nodes : List Node) (count at level : ℕ) → link_at nodes at ≡ None → deepest_from nodes count at level ≡ level
unfolding deepest_from
deepest_last nodes zero at level e = refl
deepest_last nodes (suc count) at level e =
    ap (λ (o : Option Link). elim o [ None ↦ level | Some link ↦ max level (deepest_from nodes count (onward link.kind link.to) (level_after link.kind level)) ]) e

pub summed_none : (nodes : List Node) (count at level : ℕ) → count ≡ 0 → summed_from nodes count at level ≡ 0
unfolding summed_from
summed_none nodes count at level e = ap (λ (n : ℕ). summed_from nodes n at level) e

pub deepest_none : (nodes : List Node) (count at level : ℕ) → count ≡ 0 → deepest_from nodes count at level ≡ level
unfolding deepest_from
deepest_none nodes count at level e = ap (λ (n : ℕ). deepest_from nodes n at level) e

-- the first level counts
at_least : (nodes : List Node) (count at level : ℕ) → level ≤ deepest_from nodes count at level
unfolding deepest_from
at_least nodes zero at level = omega arith
at_least nodes (suc count) at level =
    elim (link_at nodes at) as (λ o. level ≤ elim o [ None ↦ level | Some link ↦ max level (deepest_from nodes count (onward link.kind link.to) (level_after link.kind level)) ]) [
      | None ↦ omega arith
      | Some link ↦ omega arith
    ]

-- the sum over a link
pub sum_on : (nodes : List Node) (left later at level sum whole : ℕ) (link : Link) → link_at nodes at ≡ Some link → left ≡ suc later
    → counted (sum + summed_from nodes left at level) ≡ counted whole
    → counted (min (sum + level) (2 ^ 64 - 1) + summed_from nodes later (onward link.kind link.to) (level_after link.kind level)) ≡ counted whole
sum_on nodes left later at level sum whole link e f is =
    let next : summed_from nodes left at level ≡ level + summed_from nodes later (onward link.kind link.to) (level_after link.kind level) =
    ap (λ (n : ℕ). summed_from nodes n at level) f ∙ summed_next nodes later at level link e in
    omega (arith, is, next)

-- and the deepest
pub deepest_on : (nodes : List Node) (left later at level deepest whole : ℕ) (link : Link) → link_at nodes at ≡ Some link → left ≡ suc later → level ≤ deepest
    → max deepest (deepest_from nodes left at level) ≡ whole
    → max (max deepest (level_after link.kind level)) (deepest_from nodes later (onward link.kind link.to) (level_after link.kind level)) ≡ whole
deepest_on nodes left later at level deepest whole link e f deep is =
    let next : deepest_from nodes left at level ≡ max level (deepest_from nodes later (onward link.kind link.to) (level_after link.kind level)) =
    ap (λ (n : ℕ). deepest_from nodes n at level) f ∙ deepest_next nodes later at level link e in
    let least = at_least nodes later (onward link.kind link.to) (level_after link.kind level) in
    omega (arith, is, next, deep, least)

over_more : (a b more : ℕ) → counted a ≡ counted b → counted (a + more) ≡ counted (b + more)
over_more a b more e = omega (arith, e)

-- where no link is to come, what is summed and the deepest are the whole
pub ended : (nodes : List Node) (left at level sum deepest more whole down : ℕ) → summed_from nodes left at level ≡ 0 → deepest_from nodes left at level ≡ level → level ≤ deepest
    → counted (sum + summed_from nodes left at level) ≡ counted whole → max deepest (deepest_from nodes left at level) ≡ down → counted (sum + deepest * more) ≡ counted (whole + down * more)
ended nodes left at level sum deepest more whole down none last deep is most =
    let same : deepest ≡ down = omega (arith, last, deep, most) in
    let summed : counted sum ≡ counted whole = omega (arith, none, is) in
    over_more sum whole (deepest * more) summed ∙ ap (λ (n : ℕ). counted (whole + n * more)) same
