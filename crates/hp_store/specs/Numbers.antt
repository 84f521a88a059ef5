-- Numbers that count from the start of a part, and what they are in the whole.
use Rattle.std.specs.Prelude.{ℕ, ◌+◌, ◌-◌, ◌^◌, ◌<◌, ◌%◌, Some}
use Rattle.hp_store.specs.declared.node.Counts.{Counts}
use Rattle.hp_store.specs.declared.part.Element.{Element as OwnElement}
use Rattle.hp_store.specs.Store.{Element as ElementOf}

-- the number that is so far on from another, where numbers wrap past 32 bits
abbrev pub counted : ℕ → ℕ → ℕ
counted from on = (from + on) % 2 ^ 32

-- what contracts see of an element whose node counts from after so many
abbrev pub element_in : ℕ → OwnElement → ElementOf
element_in nodes e = record { tag = Some e.tag; node = counted nodes e.node }

-- nothing
abbrev pub no_counts : Counts
no_counts = record { nodes = 0; elements = 0; leaves = 0 }

-- both together
abbrev pub sum_of : Counts → Counts → Counts
sum_of a b = record { nodes = a.nodes + b.nodes; elements = a.elements + b.elements; leaves = a.leaves + b.leaves }

-- 32 bits are enough for the numbers of so much
pub record Fits (counts : Counts) : Type 0 where
  pub nodes : counts.nodes < 2 ^ 32
  pub elements : counts.elements < 2 ^ 32
  pub leaves : counts.leaves < 2 ^ 32

-- how far on a number is from another, where numbers wrap past 32 bits
abbrev pub way : ℕ → ℕ → ℕ
way from to = (to + (2 ^ 32 - from)) % 2 ^ 32
