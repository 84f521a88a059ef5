-- In which part something stands.
use Rattle.std.proofs.Common.{◌≡◌, ℕ, ◌+◌, ◌-◌, ◌<◌, ◌≤◌, suc, leb, ltb, true, false, List, [], ◌∷◌, ◌++◌, length, get_or, flat_map, arith, ap, sym, ◌∙◌, subst, inl, inr}
use Rattle.std.proofs.lemmas.Bool.{cases_lt}
use Rattle.std.proofs.lemmas.List.{get_or_default, get_or_past}
use Rattle.std.proofs.lemmas.Bool.Decides.{leb_tells}
use Rattle.std.specs.List.Sorted.{IsPartitionPoint}
use Rattle.hp_store.specs.declared.part.Part.{Part}
use Rattle.hp_store.specs.Lists.{blank, no_element, no_leaf, node_at, leaf_at, document}
use Rattle.hp_store.specs.Numbers.{no_counts, Fits}
use Rattle.hp_store.specs.Parts.{part_nodes, part_elements, part_leaves, end_of, AreLaid, HasNode, HasElement, HasLeaf}
use Rattle.hp_store.specs.Whole.{all_nodes, own_elements, all_leaves, part_of}
use Rattle.hp_store.proofs.Rows.{IsRow, row-home, row-last, read-last, read-part}
use Rattle.hp_store.proofs.Laying.{first_node, first_element, first_leaf, node-row, element-row, leaf-row, node-end, element-end, part-fits}

-- the part of a number that is past the finished ones is the last
pub part-past : (ps : List Part) (last : Part) (k : ℕ) → length ps ≤ k → part_of ps last k ≡ last
part-past ps last k h = get_or_past ps k last h

-- the part of another number is the one that stands there
pub part-there : (ps : List Part) (last : Part) (k : ℕ) (e : Part) → k < length ps → part_of ps last k ≡ get_or ps k e
part-there ps last k e h = get_or_default ps k last e h

-- to be below a number is to be at most the one before it
test-turned : (a id : ℕ) → 0 < id → leb a (id - 1) ≡ ltb a id
test-turned a id h =
    elim (leb_tells a (id - 1)) [
      | inl low ↦ elim (leb_tells (suc a) id) [ inl below ↦ low.0 ∙ sym below.0 | inr past ↦ absurd (omega (arith, low.1, past.1)) ]
      | inr high ↦ elim (leb_tells (suc a) id) [ inl below ↦ absurd (omega (arith, high.1, below.1)) | inr past ↦ high.0 ∙ sym past.0 ]
    ]

pub point-turned : (start : Part → ℕ) (ps : List Part) (id k : ℕ) → 0 < id → IsPartitionPoint (λ p. ltb (start p) id ≡ true) (λ p. ltb (start p) id ≡ false) ps k
    → IsPartitionPoint (λ p. leb (start p) (id - 1) ≡ true) (λ p. leb (start p) (id - 1) ≡ false) ps k
point-turned start ps id k h point =
    (λ j e low high. test-turned (start (get_or ps j e)) id h ∙ point.0 j e low high, λ j e low high. test-turned (start (get_or ps j e)) id h ∙ point.1 j e low high)

module _ {B : Type 0} (start : Part → ℕ) (items : Part → List B) where
  -- what stands in a part is read there
  pub read : (ps : List Part) (last : Part) (k at : ℕ) (d : B) → IsRow start items 0 (ps ++ last ∷ []) → start (part_of ps last k) ≤ at → at < start (part_of ps last k) + length (items (part_of ps last k))
      → get_or (flat_map items ps ++ items last) at d ≡ get_or (items (part_of ps last k)) (at - start (part_of ps last k)) d
  read ps last k at d row from to =
      elim (cases_lt k (length ps)) [
        | inl here ↦ read-part start items ps last k at (part_of ps last k) d row here (part-there ps last k (part_of ps last k) here) from to
        | inr past ↦
            let same : part_of ps last k ≡ last = part-past ps last k (omega arith) in
            read-last start items ps last row at d (subst (λ p. start p ≤ at) same from) ∙ ap (λ p. get_or (items p) (at - start p) d) (sym same)
      ]

  -- the part before the first one that starts past a place holds that place
  pub found : (ps : List Part) (last : Part) (at k : ℕ) → IsRow start items 0 (ps ++ last ∷ []) → IsRow start items 0 ps → k ≤ length ps → IsPartitionPoint (λ p. leb (start p) at ≡ true) (λ p. leb (start p) at ≡ false) ps k → at < start last
      → (0 < k) × ((start (part_of ps last (k - 1)) ≤ at) × (at < start (part_of ps last (k - 1)) + length (items (part_of ps last (k - 1)))))
  found ps last at k row own le point h =
      let home = row-home start items 0 ps own at k le point (omega arith) (omega (arith, row-last start items ps last row)) in (home.0, home.1 last)

pub read-node : (ps : List Part) (last : Part) (k at : ℕ) → AreLaid no_counts (ps ++ last ∷ []) → HasNode (part_of ps last k) at → node_at (all_nodes ps last) at ≡ node_at (part_nodes (part_of ps last k)) (at - (part_of ps last k).before.nodes)
read-node ps last k at laid has = read first_node part_nodes ps last k at blank (node-row no_counts (ps ++ last ∷ []) laid) has.from (omega (arith, has.to, node-end (part_of ps last k)))

pub read-element : (ps : List Part) (last : Part) (k id : ℕ) → AreLaid no_counts (ps ++ last ∷ []) → HasElement (part_of ps last k) id
    → get_or (own_elements ps last) (id - 1) no_element ≡ get_or (part_elements (part_of ps last k)) (id - (part_of ps last k).before.elements - 1) no_element
read-element ps last k id laid has =
    let turned : id - 1 - (part_of ps last k).before.elements ≡ id - (part_of ps last k).before.elements - 1 = omega arith in
    read first_element part_elements ps last k (id - 1) no_element (element-row no_counts (ps ++ last ∷ []) laid) (omega (arith, has.from)) (omega (arith, has.from, has.to, element-end (part_of ps last k)))
    ∙ ap (λ n. get_or (part_elements (part_of ps last k)) n no_element) turned

pub read-leaf : (ps : List Part) (last : Part) (k number : ℕ) → AreLaid no_counts (ps ++ last ∷ []) → HasLeaf (part_of ps last k) number → leaf_at (all_leaves ps last) number ≡ leaf_at (part_leaves (part_of ps last k)) (number - (part_of ps last k).before.leaves)
read-leaf ps last k number laid has = read first_leaf part_leaves ps last k number no_leaf (leaf-row no_counts (ps ++ last ∷ []) laid) has.from (omega (arith, has.to))

-- a part that was found
module _ (ps : List Part) (last : Part) (k : ℕ) (p : Part) (laid : AreLaid no_counts (ps ++ last ∷ [])) (held : p ≡ part_of ps last k) where
  pub node-here : (at : ℕ) → HasNode p at → node_at (all_nodes ps last) at ≡ node_at (part_nodes p) (at - p.before.nodes)
  node-here at has = read-node ps last k at laid (subst (λ q. HasNode q at) held has) ∙ ap (λ q. node_at (part_nodes q) (at - q.before.nodes)) (sym held)

  pub element-here : (id : ℕ) → HasElement p id → get_or (document ∷ own_elements ps last) id no_element ≡ get_or (part_elements p) (id - p.before.elements - 1) no_element
  element-here id has =
      let back : id ≡ suc (id - 1) = omega (arith, has.from) in
      ap (λ n. get_or (document ∷ own_elements ps last) n no_element) back
      ∙ read-element ps last k id laid (subst (λ q. HasElement q id) held has) ∙ ap (λ q. get_or (part_elements q) (id - q.before.elements - 1) no_element) (sym held)

  pub leaf-here : (number : ℕ) → HasLeaf p number → leaf_at (all_leaves ps last) number ≡ leaf_at (part_leaves p) (number - p.before.leaves)
  leaf-here number has = read-leaf ps last k number laid (subst (λ q. HasLeaf q number) held has) ∙ ap (λ q. leaf_at (part_leaves q) (number - q.before.leaves)) (sym held)

  pub fits-here : Fits (end_of last) → Fits (end_of p)
  fits-here fits = subst (λ q. Fits (end_of q)) (sym held) (part-fits ps last laid fits k)

-- so is a finished one that was read
pub part-held : (ps : List Part) (last : Part) (k : ℕ) (p : Part) → k < length ps → p ≡ get_or ps k p → p ≡ part_of ps last k
part-held ps last k p h held = held ∙ sym (part-there ps last k p h)

-- the part that grows is the one of this number
pub last-held : (ps : List Part) (last : Part) → last ≡ part_of ps last (length ps)
last-held ps last = sym (part-past ps last (length ps) (omega arith))
