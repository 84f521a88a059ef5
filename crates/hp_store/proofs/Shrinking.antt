-- Parts whose items stay.
use Rattle.std.proofs.Common.{◌≡◌, refl, List, [], ◌∷◌, ◌++◌, length, map, flat_map, arith, ap, ◌∙◌}
use Rattle.hp_store.specs.declared.node.Counts.{Counts}
use Rattle.hp_store.specs.declared.part.Part.{Part}
use Rattle.hp_store.specs.Numbers.{element_in, sum_of}
use Rattle.hp_store.specs.Grafting.{raised_node}
use Rattle.hp_store.specs.Parts.{part_nodes, part_elements, part_leaves, end_of, free_of, size_of, AreLaid, SameItems}
use Rattle.hp_store.specs.declared.store.Store.TheInside.{Inside}
use Rattle.hp_store.specs.Lists.{document}
use Rattle.hp_store.specs.Whole.{seen, part_of, IsSound}
use Rattle.hp_store.proofs.Whole.{with_last, made, IsSound-last}

module _ (p q : Part) (same : SameItems p q) where
  pub same-nodes : part_nodes q ≡ part_nodes p
  same-nodes = ap (λ (b : Counts). map (raised_node b) q.nodes.items) same.before ∙ ap (map (raised_node p.before)) same.nodes

  pub same-elements : part_elements q ≡ part_elements p
  same-elements = ap (λ (b : Counts). map (element_in b.nodes) q.elements.items) same.before ∙ ap (map (element_in p.before.nodes)) same.elements

  pub same-leaves : part_leaves q ≡ part_leaves p
  same-leaves = same.leaves

  pub same-size : size_of q ≡ size_of p
  same-size =
      ap (λ n. record { nodes = n; elements = length q.elements.items; leaves = length q.leaves.items }) (ap length same.nodes)
      ∙ ap (λ n. record { nodes = length p.nodes.items; elements = n; leaves = length q.leaves.items }) (ap length same.elements)
      ∙ ap (λ n. record { nodes = length p.nodes.items; elements = length p.elements.items; leaves = n }) (ap length same.leaves)

  pub same-end : end_of q ≡ end_of p
  same-end = ap (λ (b : Counts). sum_of b (size_of q)) same.before ∙ ap (sum_of p.before) same-size

  pub same-laid : (before : Counts) (ps : List Part) → AreLaid before (ps ++ p ∷ []) → AreLaid before (ps ++ q ∷ [])
  same-laid before [] laid = (same.before ∙ laid.0, tt)
  same-laid before (r ∷ ps) laid = (laid.0, same-laid (end_of r) ps laid.1)

  pub same-first : (ps : List Part) → (part_of ps q 0).nodes.items ≡ (part_of ps p 0).nodes.items
  same-first [] = same.nodes
  same-first (r ∷ ps) = refl

-- the part that grows was made smaller
pub IsSound-same : (a : Inside) (q : Part) → IsSound a → SameItems a.last q → IsSound (with_last a q)
IsSound-same a q sound same =
    IsSound-last a q sound same.before (same-end a.last q same) (ap length same.nodes) (omega (arith, sound.filled, ap length same.nodes, ap length same.elements, ap length same.leaves))

pub seen-same : (a : Inside) (q : Part) → SameItems a.last q → seen (with_last a q) ≡ record (seen a) { free = free_of q }
seen-same a q same =
    made _ _ _ _ _ _ _ _
    (ap (λ xs. flat_map part_nodes a.parts.items ++ xs) (same-nodes a.last q same))
    (ap (λ xs. document ∷ flat_map part_elements a.parts.items ++ xs) (same-elements a.last q same))
    (ap (λ xs. flat_map part_leaves a.parts.items ++ xs) (same-leaves a.last q same))
    refl
