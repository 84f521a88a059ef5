-- Parts that stand one after the other.
use Rattle.std.proofs.Common.{◌≡◌, ℕ, zero, suc, ◌+◌, ◌<◌, ◌≤◌, List, [], ◌∷◌, ◌++◌, length, get_or, set, flat_map, arith, refl, ap, sym, ◌∙◌, subst}
use Rattle.std.proofs.lemmas.List.{length-map, length-append}
use Rattle.hp_store.specs.declared.node.Counts.{Counts}
use Rattle.hp_store.specs.declared.part.Part.{Part}
use Rattle.hp_store.specs.Grafting.{raised_node}
use Rattle.hp_store.specs.Numbers.{element_in, no_counts, Fits}
use Rattle.hp_store.specs.Parts.{part_nodes, part_elements, part_leaves, end_of, AreLaid}
use Rattle.hp_store.specs.Whole.{all_nodes, own_elements, all_leaves, part_of}
use Rattle.hp_store.proofs.Rows.{IsRow, row-last}

abbrev pub first_node : Part → ℕ
first_node p = p.before.nodes

abbrev pub first_element : Part → ℕ
first_element p = p.before.elements

abbrev pub first_leaf : Part → ℕ
first_leaf p = p.before.leaves

pub node-end : (p : Part) → (end_of p).nodes ≡ p.before.nodes + length (part_nodes p)
node-end p = omega (arith, length-map p.nodes.items (raised_node p.before))

pub element-end : (p : Part) → (end_of p).elements ≡ p.before.elements + length (part_elements p)
element-end p = omega (arith, length-map p.elements.items (element_in p.before.nodes))

pub leaf-end : (p : Part) → (end_of p).leaves ≡ p.before.leaves + length (part_leaves p)
leaf-end p = refl

-- each list of laid parts is a row
pub node-row : (from : Counts) (ps : List Part) → AreLaid from ps → IsRow first_node part_nodes from.nodes ps
node-row from [] laid = tt
node-row from (p ∷ ps) laid =
    let same : p.before.nodes ≡ from.nodes = ap (λ c. c.nodes) laid.0 in
    let end : (end_of p).nodes ≡ from.nodes + length (part_nodes p) = omega (arith, node-end p) in
    (same, subst (λ n. IsRow first_node part_nodes n ps) end (node-row (end_of p) ps laid.1))

pub element-row : (from : Counts) (ps : List Part) → AreLaid from ps → IsRow first_element part_elements from.elements ps
element-row from [] laid = tt
element-row from (p ∷ ps) laid =
    let same : p.before.elements ≡ from.elements = ap (λ c. c.elements) laid.0 in
    let end : (end_of p).elements ≡ from.elements + length (part_elements p) = omega (arith, element-end p) in
    (same, subst (λ n. IsRow first_element part_elements n ps) end (element-row (end_of p) ps laid.1))

pub leaf-row : (from : Counts) (ps : List Part) → AreLaid from ps → IsRow first_leaf part_leaves from.leaves ps
leaf-row from [] laid = tt
leaf-row from (p ∷ ps) laid =
    let same : p.before.leaves ≡ from.leaves = ap (λ c. c.leaves) laid.0 in
    let end : (end_of p).leaves ≡ from.leaves + length (part_leaves p) = omega (arith, leaf-end p) in
    (same, subst (λ n. IsRow first_leaf part_leaves n ps) end (leaf-row (end_of p) ps laid.1))

-- what comes first of laid parts is laid
pub AreLaid-front : (from : Counts) (ps qs : List Part) → AreLaid from (ps ++ qs) → AreLaid from ps
AreLaid-front from [] qs laid = tt
AreLaid-front from (p ∷ ps) qs laid = (laid.0, AreLaid-front (end_of p) ps qs laid.1)

-- a part is replaced by one as large
pub AreLaid-part : (from : Counts) (ps qs : List Part) (k : ℕ) (q e : Part) → AreLaid from (ps ++ qs) → k < length ps → q.before ≡ (get_or ps k e).before → end_of q ≡ end_of (get_or ps k e) → AreLaid from (set ps k q ++ qs)
AreLaid-part from [] qs k q e laid h before end = absurd (omega arith)
AreLaid-part from (p ∷ ps) qs zero q e laid h before end = (before ∙ laid.0, subst (λ c. AreLaid c (ps ++ qs)) (sym end) laid.1)
AreLaid-part from (p ∷ ps) qs (suc k) q e laid h before end = (laid.0, AreLaid-part (end_of p) ps qs k q e laid.1 (omega arith) before end)

-- the last one by any that starts where it does
pub AreLaid-last : (from : Counts) (ps : List Part) (last q : Part) → AreLaid from (ps ++ last ∷ []) → q.before ≡ last.before → AreLaid from (ps ++ q ∷ [])
AreLaid-last from [] last q laid before = (before ∙ laid.0, tt)
AreLaid-last from (p ∷ ps) last q laid before = (laid.0, AreLaid-last (end_of p) ps last q laid.1 before)

-- so much at most comes before the end of a part
pub record IsWithin (a b : Counts) : Type 0 where
  pub nodes : a.nodes ≤ b.nodes
  pub elements : a.elements ≤ b.elements
  pub leaves : a.leaves ≤ b.leaves

within-front : (from : Counts) (ps : List Part) (last : Part) → AreLaid from (ps ++ last ∷ []) → IsWithin from (end_of last)
within-front from [] last laid = record {
  nodes = omega (arith, ap (λ c. c.nodes) laid.0);
  elements = omega (arith, ap (λ c. c.elements) laid.0);
  leaves = omega (arith, ap (λ c. c.leaves) laid.0);
}
within-front from (p ∷ ps) last laid =
    let rest = within-front (end_of p) ps last laid.1 in
    record {
      nodes = omega (arith, rest.nodes, ap (λ c. c.nodes) laid.0);
      elements = omega (arith, rest.elements, ap (λ c. c.elements) laid.0);
      leaves = omega (arith, rest.leaves, ap (λ c. c.leaves) laid.0);
    }

-- each part ends where the last one does, or before
pub part-within : (from : Counts) (ps : List Part) (last : Part) → AreLaid from (ps ++ last ∷ []) → (k : ℕ) → IsWithin (end_of (part_of ps last k)) (end_of last)
part-within from [] last laid k = record { nodes = omega arith; elements = omega arith; leaves = omega arith }
part-within from (p ∷ ps) last laid zero = within-front (end_of p) ps last laid.1
part-within from (p ∷ ps) last laid (suc k) = part-within (end_of p) ps last laid.1 k

-- and starts past what comes before all
pub start-within : (from : Counts) (ps : List Part) (last : Part) → AreLaid from (ps ++ last ∷ []) → (k : ℕ) → IsWithin (part_of ps last k).before (end_of last)
start-within from [] last laid k = record { nodes = omega arith; elements = omega arith; leaves = omega arith }
start-within from (p ∷ ps) last laid zero =
    let rest = within-front (end_of p) ps last laid.1 in
    record { nodes = omega (arith, rest.nodes); elements = omega (arith, rest.elements); leaves = omega (arith, rest.leaves) }
start-within from (p ∷ ps) last laid (suc k) = start-within (end_of p) ps last laid.1 k

pub part-fits : (ps : List Part) (last : Part) → AreLaid no_counts (ps ++ last ∷ []) → Fits (end_of last) → (k : ℕ) → Fits (end_of (part_of ps last k))
part-fits ps last laid fits k =
    let within = part-within no_counts ps last laid k in
    record { nodes = omega (arith, within.nodes, fits.nodes); elements = omega (arith, within.elements, fits.elements); leaves = omega (arith, within.leaves, fits.leaves) }

-- how much there is in all
pub count-nodes : (ps : List Part) (last : Part) → AreLaid no_counts (ps ++ last ∷ []) → length (all_nodes ps last) ≡ (end_of last).nodes
count-nodes ps last laid = omega (arith, length-append (flat_map part_nodes ps) (part_nodes last), row-last first_node part_nodes ps last (node-row no_counts (ps ++ last ∷ []) laid), node-end last)

pub count-elements : (ps : List Part) (last : Part) → AreLaid no_counts (ps ++ last ∷ []) → length (own_elements ps last) ≡ (end_of last).elements
count-elements ps last laid = omega (arith, length-append (flat_map part_elements ps) (part_elements last), row-last first_element part_elements ps last (element-row no_counts (ps ++ last ∷ []) laid), element-end last)

pub count-leaves : (ps : List Part) (last : Part) → AreLaid no_counts (ps ++ last ∷ []) → length (all_leaves ps last) ≡ (end_of last).leaves
count-leaves ps last laid = omega (arith, length-append (flat_map part_leaves ps) (part_leaves last), row-last first_leaf part_leaves ps last (leaf-row no_counts (ps ++ last ∷ []) laid), leaf-end last)
