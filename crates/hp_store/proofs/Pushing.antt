-- A whole store, once its last part has grown.
use Rattle.std.proofs.Common.{◌≡◌, ℕ, ◌+◌, ◌*◌, ◌^◌, ◌<◌, ◌≤◌, List, [], ◌∷◌, ◌++◌, length, map, flat_map, Some, arith, ap, sym, ◌∙◌, append_assoc}
use Rattle.std.proofs.lemmas.List.{length-append, map-append}
use Rattle.hp_elements.specs.declared.tag.Tag.{Tag}
use Rattle.hp_store.specs.declared.node.Counts.{Counts}
use Rattle.hp_store.specs.declared.node.Kind.TheVariants.{End, Element, Leaf}
use Rattle.hp_store.specs.declared.node.Node.{Node}
use Rattle.hp_store.specs.declared.part.Element.{Element as OwnElement}
use Rattle.hp_store.specs.declared.part.Leaf.{Leaf as LeafOf}
use Rattle.hp_store.specs.declared.part.Part.{Part}
use Rattle.hp_store.specs.declared.store.Store.TheInside.{Inside}
use Rattle.hp_store.specs.Numbers.{Fits, counted, element_in, no_counts}
use Rattle.hp_store.specs.Grafting.{raised_node}
use Rattle.hp_store.specs.Lists.{alone, element_nodes, leaf_nodes, document}
use Rattle.hp_store.specs.Parts.{part_nodes, part_elements, part_leaves, end_of}
use Rattle.hp_store.specs.Whole.{seen, IsSound, all_nodes, own_elements, all_leaves}
use Rattle.hp_store.proofs.Wraps.{counted-plain}
use Rattle.hp_store.proofs.Listed.{tagged}
use Rattle.hp_store.proofs.Laying.{AreLaid-last, count-nodes, count-elements, count-leaves}
use Rattle.hp_store.proofs.Whole.{with_last, first-last}

-- where items come behind others, in the last part
behind : {B : Type 0} (front old new more : List B) → new ≡ old ++ more → front ++ new ≡ (front ++ old) ++ more
behind front old new more is = ap (λ ys. front ++ ys) is ∙ sym (append_assoc front old more)

-- the nodes of a new leaf, in the whole
leaf-raised : (b : Counts) (n k place number : ℕ) → counted b.nodes n ≡ place → counted b.leaves k ≡ number → map (raised_node b) (leaf_nodes n k) ≡ leaf_nodes place number
leaf-raised b n k place number is same = ap (λ x. alone x (Leaf (counted b.leaves k)) ∷ []) is ∙ ap (λ x. alone place (Leaf x) ∷ []) same

-- and of a new element
element-raised : (b : Counts) (n k place id : ℕ) → counted b.nodes n ≡ place → counted b.nodes (n + 1) ≡ place + 1 → counted b.elements k ≡ id → map (raised_node b) (element_nodes n k) ≡ element_nodes place id
element-raised b n k place id is next same =
    ap (λ x. alone x (Element (counted b.elements k)) ∷ alone (counted b.nodes (n + 1)) (End (counted b.elements k)) ∷ []) is
    ∙ ap (λ x. alone place (Element (counted b.elements k)) ∷ alone x (End (counted b.elements k)) ∷ []) next
    ∙ ap (λ x. alone place (Element x) ∷ alone (place + 1) (End x) ∷ []) same

-- nodes come behind others
nodes-behind : (p q : Part) (more : List Node) → q.before ≡ p.before → q.nodes.items ≡ p.nodes.items ++ more → part_nodes q ≡ part_nodes p ++ map (raised_node p.before) more
nodes-behind p q more before is =
    ap (λ (b : Counts). map (raised_node b) q.nodes.items) before ∙ ap (map (raised_node p.before)) is ∙ map-append (raised_node p.before) p.nodes.items more

module _ (a : Inside) (sound : IsSound a) (q : Part) (before : q.before ≡ a.last.before) where
  -- the invariant, where the last part has grown
  IsSound-grown : length a.last.nodes.items ≤ length q.nodes.items → Fits (end_of q) → 2 * length q.elements.items + length q.leaves.items ≤ length q.nodes.items → IsSound (with_last a q)
  IsSound-grown more fits filled = record {
    laid = AreLaid-last no_counts a.parts.items a.last q sound.laid before;
    fits = fits;
    few = sound.few;
    first = omega (arith, first-last a.parts.items a.last q more, sound.first);
    filled = filled;
  }

  nodes_are : length (seen a).nodes ≡ a.last.before.nodes + length a.last.nodes.items
  nodes_are = count-nodes a.parts.items a.last sound.laid

  elements_are : length (seen a).elements ≡ a.last.before.elements + length a.last.elements.items + 1
  elements_are = omega (arith, count-elements a.parts.items a.last sound.laid)

  leaves_are : length (seen a).leaves ≡ a.last.before.leaves + length a.last.leaves.items
  leaves_are = count-leaves a.parts.items a.last sound.laid

  module _ (l : LeafOf) (nodes : q.nodes.items ≡ a.last.nodes.items ++ leaf_nodes (length a.last.nodes.items) (length a.last.leaves.items)) (leaves : q.leaves.items ≡ a.last.leaves.items ++ l ∷ [])
      (elements : q.elements ≡ a.last.elements) (nodes_fit : length (seen a).nodes + 1 < 2 ^ 32) (leaves_fit : length (seen a).leaves + 1 < 2 ^ 32) where
    pub IsSound-leaf : IsSound (with_last a q)
    IsSound-leaf =
        let more : length q.nodes.items ≡ length a.last.nodes.items + 1 = ap length nodes ∙ length-append a.last.nodes.items (leaf_nodes (length a.last.nodes.items) (length a.last.leaves.items)) in
        let one : length q.leaves.items ≡ length a.last.leaves.items + 1 = ap length leaves ∙ length-append a.last.leaves.items (l ∷ []) in
        let same : length q.elements.items ≡ length a.last.elements.items = ap (λ v. length v.items) elements in
        IsSound-grown (omega (arith, more))
        (record {
          nodes = omega (arith, ap (λ c. c.nodes) before, more, nodes_fit, nodes_are);
          elements = omega (arith, ap (λ c. c.elements) before, same, sound.fits.elements);
          leaves = omega (arith, ap (λ c. c.leaves) before, one, leaves_fit, leaves_are);
        })
        (omega (arith, more, one, same, sound.filled))

    pub nodes-leaf : all_nodes a.parts.items q ≡ (seen a).nodes ++ leaf_nodes (length (seen a).nodes) (length (seen a).leaves)
    nodes-leaf =
        let place : counted a.last.before.nodes (length a.last.nodes.items) ≡ length (seen a).nodes = counted-plain a.last.before.nodes (length a.last.nodes.items) (omega (arith, sound.fits.nodes)) ∙ sym nodes_are in
        let number : counted a.last.before.leaves (length a.last.leaves.items) ≡ length (seen a).leaves = counted-plain a.last.before.leaves (length a.last.leaves.items) (omega (arith, sound.fits.leaves)) ∙ sym leaves_are in
        behind (flat_map part_nodes a.parts.items) (part_nodes a.last) (part_nodes q) (leaf_nodes (length (seen a).nodes) (length (seen a).leaves))
        (nodes-behind a.last q (leaf_nodes (length a.last.nodes.items) (length a.last.leaves.items)) before nodes
        ∙ ap (λ ns. part_nodes a.last ++ ns) (leaf-raised a.last.before (length a.last.nodes.items) (length a.last.leaves.items) (length (seen a).nodes) (length (seen a).leaves) place number))

    pub leaves-leaf : all_leaves a.parts.items q ≡ (seen a).leaves ++ l ∷ []
    leaves-leaf = behind (flat_map part_leaves a.parts.items) (part_leaves a.last) (part_leaves q) (l ∷ []) leaves

    pub elements-leaf : document ∷ own_elements a.parts.items q ≡ (seen a).elements
    elements-leaf =
        ap (λ ys. document ∷ flat_map part_elements a.parts.items ++ ys) (ap (λ (b : Counts). map (element_in b.nodes) q.elements.items) before ∙ ap (λ v. map (element_in a.last.before.nodes) v.items) elements)

  module _ (tag : Tag) (nodes : q.nodes.items ≡ a.last.nodes.items ++ element_nodes (length a.last.nodes.items) (length a.last.elements.items + 1))
      (elements : q.elements.items ≡ a.last.elements.items ++ record { tag = tag; node = length a.last.nodes.items } ∷ [])
      (leaves : q.leaves ≡ a.last.leaves) (nodes_fit : length (seen a).nodes + 2 < 2 ^ 32) (elements_fit : length (seen a).elements + 1 < 2 ^ 32) where
    abbrev new_element : OwnElement
    new_element = record { tag = tag; node = length a.last.nodes.items }

    pub IsSound-element : IsSound (with_last a q)
    IsSound-element =
        let more : length q.nodes.items ≡ length a.last.nodes.items + 2 = ap length nodes ∙ length-append a.last.nodes.items (element_nodes (length a.last.nodes.items) (length a.last.elements.items + 1)) in
        let one : length q.elements.items ≡ length a.last.elements.items + 1 = ap length elements ∙ length-append a.last.elements.items (new_element ∷ []) in
        let same : length q.leaves.items ≡ length a.last.leaves.items = ap (λ v. length v.items) leaves in
        IsSound-grown (omega (arith, more))
        (record {
          nodes = omega (arith, ap (λ c. c.nodes) before, more, nodes_fit, nodes_are);
          elements = omega (arith, ap (λ c. c.elements) before, one, elements_fit, elements_are);
          leaves = omega (arith, ap (λ c. c.leaves) before, same, sound.fits.leaves);
        })
        (omega (arith, more, one, same, sound.filled))

    pub nodes-element : all_nodes a.parts.items q ≡ (seen a).nodes ++ element_nodes (length (seen a).nodes) (length (seen a).elements)
    nodes-element =
        let n = length a.last.nodes.items in
        let k = length a.last.elements.items in
        let place : counted a.last.before.nodes n ≡ length (seen a).nodes = counted-plain a.last.before.nodes n (omega (arith, sound.fits.nodes)) ∙ sym nodes_are in
        let next : counted a.last.before.nodes (n + 1) ≡ length (seen a).nodes + 1 = counted-plain a.last.before.nodes (n + 1) (omega (arith, nodes_fit, nodes_are)) ∙ omega (arith, nodes_are) in
        let id : counted a.last.before.elements (k + 1) ≡ length (seen a).elements = counted-plain a.last.before.elements (k + 1) (omega (arith, elements_fit, elements_are)) ∙ omega (arith, elements_are) in
        behind (flat_map part_nodes a.parts.items) (part_nodes a.last) (part_nodes q) (element_nodes (length (seen a).nodes) (length (seen a).elements))
        (nodes-behind a.last q (element_nodes n (k + 1)) before nodes
        ∙ ap (λ ns. part_nodes a.last ++ ns) (element-raised a.last.before n (k + 1) (length (seen a).nodes) (length (seen a).elements) place next id))

    pub elements-element : document ∷ own_elements a.parts.items q ≡ (seen a).elements ++ record { tag = Some tag; node = length (seen a).nodes } ∷ []
    elements-element =
        let f = element_in a.last.before.nodes in
        let number : counted a.last.before.nodes (length a.last.nodes.items) ≡ length (seen a).nodes = counted-plain a.last.before.nodes (length a.last.nodes.items) (omega (arith, sound.fits.nodes)) ∙ sym nodes_are in
        ap (λ ys. document ∷ ys) (behind (flat_map part_elements a.parts.items) (part_elements a.last) (part_elements q) (record { tag = Some tag; node = length (seen a).nodes } ∷ [])
        (ap (λ (b : Counts). map (element_in b.nodes) q.elements.items) before ∙ ap (map f) elements ∙ map-append f a.last.elements.items (new_element ∷ [])
        ∙ ap (λ n. part_elements a.last ++ tagged (Some tag) n ∷ []) number))

    pub leaves-element : all_leaves a.parts.items q ≡ (seen a).leaves
    leaves-element = ap (λ v. flat_map part_leaves a.parts.items ++ v.items) leaves
