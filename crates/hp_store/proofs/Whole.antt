-- A whole store, once one of its parts has changed.
use Rattle.std.proofs.Common.{◌≡◌, ℕ, zero, suc, ◌+◌, ◌-◌, ◌^◌, ◌<◌, ◌≤◌, List, [], ◌∷◌, ◌++◌, length, map, get_or, set, flat_map, arith, refl, ap, sym, ◌∙◌, subst}
use Rattle.std.specs.Vec.{with_item}
use Rattle.std.proofs.lemmas.List.{length-set}
use Rattle.hp_store.specs.declared.node.Counts.{Counts}
use Rattle.hp_store.specs.declared.node.Node.{Node}
use Rattle.hp_store.specs.declared.part.Leaf.{Leaf as LeafOf}
use Rattle.hp_store.specs.declared.part.Part.{Part}
use Rattle.hp_store.specs.declared.store.Store.TheInside.{Inside}
use Rattle.hp_store.specs.Store.{Free, Element as ElementOf, Stored}
use Rattle.hp_store.specs.Numbers.{way, element_in, no_counts, Fits}
use Rattle.hp_store.specs.Grafting.{raised_node}
use Rattle.hp_store.specs.Lists.{blank, node_at, no_element, no_leaf, leaf_at, document, put_between}
use Rattle.hp_store.specs.Parts.{part_nodes, part_elements, part_leaves, end_of, AreLaid, HasNode, HasElement, HasLeaf, IsWider, KeepsNodesAside, KeepsElementsAside, KeepsLeavesAside, IsPutBetween}
use Rattle.hp_store.specs.Whole.{seen, IsSound, IsFilled, all_nodes, own_elements, part_of, KeepsPartsAside}
use Rattle.hp_store.proofs.Wraps.{way-place}
use Rattle.hp_store.proofs.Listed.{put-behind}
use Rattle.hp_store.proofs.Rows.{row-last, edit-last, edit-part, flat-kept}
use Rattle.hp_store.proofs.Laying.{first_node, first_element, first_leaf, node-row, element-row, leaf-row, node-end, element-end, AreLaid-part, AreLaid-last}

abbrev pub make : List Node → List ElementOf → List LeafOf → Free → Stored
make nodes elements leaves free = record { nodes = nodes; elements = elements; leaves = leaves; free = free }

-- equal lists make equal stores
pub made : (n m : List Node) (e f : List ElementOf) (l k : List LeafOf) (r s : Free) → n ≡ m → e ≡ f → l ≡ k → r ≡ s → make n e l r ≡ make m f k s
made n m e f l k r s hn he hl hr = ap (λ x. make x e l r) hn ∙ ap (λ x. make m x l r) he ∙ ap (λ x. make m f x r) hl ∙ ap (λ x. make m f k x) hr

abbrev pub with_part : Inside → ℕ → Part → Inside
with_part a k q = record a { parts = with_item a.parts k q }

abbrev pub with_last : Inside → Part → Inside
with_last a q = record a { last = q }

-- how many nodes the first part has
abbrev pub first_count : List Part → Part → ℕ
first_count ps last = length (part_of ps last 0).nodes.items

pub first-part : (ps : List Part) (last : Part) (k : ℕ) (q e : Part) → length q.nodes.items ≡ length (get_or ps k e).nodes.items → first_count (set ps k q) last ≡ first_count ps last
first-part [] last k q e h = refl
first-part (p ∷ ps) last zero q e h = h
first-part (p ∷ ps) last (suc k) q e h = refl

pub first-last : (ps : List Part) (last q : Part) → length last.nodes.items ≤ length q.nodes.items → first_count ps last ≤ first_count ps q
first-last [] last q h = h
first-last (p ∷ ps) last q h = omega arith

pub IsSound-part : (a : Inside) (k : ℕ) (p q : Part) → IsSound a → k < length a.parts.items → p ≡ get_or a.parts.items k p → q.before ≡ p.before → end_of q ≡ end_of p → length q.nodes.items ≡ length p.nodes.items → IsSound (with_part a k q)
IsSound-part a k p q sound h held before end count = record {
  laid = AreLaid-part no_counts a.parts.items (a.last ∷ []) k q p sound.laid h (before ∙ ap (λ r. r.before) held) (end ∙ ap end_of held);
  fits = sound.fits;
  few = omega (arith, length-set a.parts.items k q, sound.few);
  first = omega (arith, first-part a.parts.items a.last k q p (count ∙ ap (λ r. length r.nodes.items) held), sound.first);
  filled = sound.filled;
}

pub IsSound-last : (a : Inside) (q : Part) → IsSound a → q.before ≡ a.last.before → end_of q ≡ end_of a.last → length q.nodes.items ≡ length a.last.nodes.items → IsFilled q → IsSound (with_last a q)
IsSound-last a q sound before end count filled = record {
  laid = AreLaid-last no_counts a.parts.items a.last q sound.laid before;
  fits = subst (λ c. Fits c) (sym end) sound.fits;
  few = sound.few;
  first = omega (arith, first-last a.parts.items a.last q (omega (arith, count)), sound.first);
  filled = filled;
}

pub nodes-end : (p q : Part) → KeepsNodesAside p q → end_of q ≡ end_of p
nodes-end p q kept = rw (kept.before, kept.count, kept.elements, kept.leaves) refl

pub elements-end : (p q : Part) → KeepsElementsAside p q → end_of q ≡ end_of p
elements-end p q kept = rw (kept.before, kept.count, kept.nodes, kept.leaves) refl

pub leaves-end : (p q : Part) → KeepsLeavesAside p q → end_of q ≡ end_of p
leaves-end p q kept = rw (kept.before, kept.count, kept.nodes, kept.elements) refl

-- what an element and a leaf need stays
pub filled-nodes : (p q : Part) → KeepsNodesAside p q → IsFilled p → IsFilled q
filled-nodes p q kept filled = omega (arith, filled, kept.count, ap (λ v. length v.items) kept.elements, ap (λ v. length v.items) kept.leaves)

filled-elements : (p q : Part) → KeepsElementsAside p q → IsFilled p → IsFilled q
filled-elements p q kept filled = omega (arith, filled, kept.count, ap (λ v. length v.items) kept.nodes, ap (λ v. length v.items) kept.leaves)

filled-leaves : (p q : Part) → KeepsLeavesAside p q → IsFilled p → IsFilled q
filled-leaves p q kept filled = omega (arith, filled, kept.count, ap (λ v. length v.items) kept.nodes, ap (λ v. length v.items) kept.elements)

pub IsSound-last_nodes : (a : Inside) (q : Part) → IsSound a → KeepsNodesAside a.last q → IsSound (with_last a q)
IsSound-last_nodes a q sound kept = IsSound-last a q sound kept.before (nodes-end a.last q kept) kept.count (filled-nodes a.last q kept sound.filled)

pub IsSound-last_elements : (a : Inside) (q : Part) → IsSound a → KeepsElementsAside a.last q → IsSound (with_last a q)
IsSound-last_elements a q sound kept = IsSound-last a q sound kept.before (elements-end a.last q kept) (ap (λ v. length v.items) kept.nodes) (filled-elements a.last q kept sound.filled)

pub IsSound-last_leaves : (a : Inside) (q : Part) → IsSound a → KeepsLeavesAside a.last q → IsSound (with_last a q)
IsSound-last_leaves a q sound kept = IsSound-last a q sound kept.before (leaves-end a.last q kept) (ap (λ v. length v.items) kept.nodes) (filled-leaves a.last q kept sound.filled)

pub IsSound-part_elements : (a : Inside) (k : ℕ) (p q : Part) → IsSound a → k < length a.parts.items → p ≡ get_or a.parts.items k p → KeepsElementsAside p q → IsSound (with_part a k q)
IsSound-part_elements a k p q sound h held kept = IsSound-part a k p q sound h held kept.before (elements-end p q kept) (ap (λ v. length v.items) kept.nodes)

pub IsSound-part_leaves : (a : Inside) (k : ℕ) (p q : Part) → IsSound a → k < length a.parts.items → p ≡ get_or a.parts.items k p → KeepsLeavesAside p q → IsSound (with_part a k q)
IsSound-part_leaves a k p q sound h held kept = IsSound-part a k p q sound h held kept.before (leaves-end p q kept) (ap (λ v. length v.items) kept.nodes)

pub IsSound-wider : (a : Inside) (q : Part) → IsSound a → IsWider a.last q → IsSound (with_last a q)
IsSound-wider a q sound wider =
    IsSound-last a q sound wider.before (rw (wider.before, wider.nodes, wider.elements, wider.leaves) refl) (ap length wider.nodes)
    (omega (arith, sound.filled, ap length wider.nodes, ap length wider.elements, ap length wider.leaves))

-- the lists of a part with the same start and the same items
pub same-nodes : (p q : Part) → q.before ≡ p.before → q.nodes ≡ p.nodes → part_nodes q ≡ part_nodes p
same-nodes p q before is = ap (λ (b : Counts). map (raised_node b) q.nodes.items) before ∙ ap (λ v. map (raised_node p.before) v.items) is

pub same-elements : (p q : Part) → q.before ≡ p.before → q.elements ≡ p.elements → part_elements q ≡ part_elements p
same-elements p q before is = ap (λ (b : Counts). map (element_in b.nodes) q.elements.items) before ∙ ap (λ v. map (element_in p.before.nodes) v.items) is

pub same-leaves : (p q : Part) → q.leaves ≡ p.leaves → part_leaves q ≡ part_leaves p
same-leaves p q is = ap (λ v. v.items) is

-- one of the nodes is changed, in the last part
pub nodes-last : (a : Inside) (q : Part) (at : ℕ) (f : Node → Node) → IsSound a → a.last.before.nodes ≤ at → KeepsNodesAside a.last q
    → part_nodes q ≡ set (part_nodes a.last) (at - a.last.before.nodes) (f (node_at (part_nodes a.last) (at - a.last.before.nodes))) → seen (with_last a q) ≡ record (seen a) { nodes = set (seen a).nodes at (f (node_at (seen a).nodes at)) }
nodes-last a q at f sound le kept is =
    let here = edit-last first_node part_nodes a.parts.items a.last q at f blank (node-row no_counts (a.parts.items ++ a.last ∷ []) sound.laid) le is in
    made _ _ _ _ _ _ _ _
    here
    (ap (λ ys. document ∷ flat_map part_elements a.parts.items ++ ys) (same-elements a.last q kept.before kept.elements))
    (ap (λ ys. flat_map part_leaves a.parts.items ++ ys) (same-leaves a.last q kept.leaves))
    kept.free

-- and in another
pub nodes-part : (ps : List Part) (last : Part) (k at : ℕ) (p q : Part) (f : Node → Node) → AreLaid no_counts (ps ++ last ∷ []) → k < length ps → p ≡ get_or ps k p → HasNode p at
    → part_nodes q ≡ set (part_nodes p) (at - p.before.nodes) (f (node_at (part_nodes p) (at - p.before.nodes))) → all_nodes (set ps k q) last ≡ set (all_nodes ps last) at (f (node_at (all_nodes ps last) at))
nodes-part ps last k at p q f laid h held has is =
    edit-part first_node part_nodes ps last k at p q f blank (node-row no_counts (ps ++ last ∷ []) laid) h held has.from (omega (arith, has.to, node-end p)) is

pub KeepsPartsAside-set : (ps : List Part) (last : Part) (k : ℕ) (p q : Part) → AreLaid no_counts (ps ++ last ∷ []) → k < length ps → p ≡ get_or ps k p → KeepsNodesAside p q → KeepsPartsAside last ps (set ps k q)
KeepsPartsAside-set ps last k p q laid h held kept = record {
  laid = AreLaid-part no_counts ps (last ∷ []) k q p laid h (kept.before ∙ ap (λ r. r.before) held) (nodes-end p q kept ∙ ap end_of held);
  count = length-set ps k q;
  elements = flat-kept first_element part_elements ps k q p (same-elements p q kept.before kept.elements ∙ ap part_elements held);
  leaves = flat-kept first_leaf part_leaves ps k q p (same-leaves p q kept.leaves ∙ ap part_leaves held);
  first = first-part ps last k q p (kept.count ∙ ap (λ r. length r.nodes.items) held);
}

-- the same parts with other nodes
module _ (a b : Inside) (sound : IsSound a) (last : b.last ≡ a.last) (kept : KeepsPartsAside a.last a.parts.items b.parts.items) where
  pub IsSound-aside : IsSound b
  IsSound-aside = record {
    laid = subst (λ p. AreLaid no_counts (b.parts.items ++ p ∷ [])) (sym last) kept.laid;
    fits = subst (λ p. Fits (end_of p)) (sym last) sound.fits;
    few = omega (arith, kept.count, sound.few);
    first = subst (λ p. 0 < first_count b.parts.items p) (sym last) (omega (arith, kept.first, sound.first));
    filled = subst (λ p. IsFilled p) (sym last) sound.filled;
  }

  pub seen-aside : (nodes : List Node) → all_nodes b.parts.items a.last ≡ nodes → seen b ≡ record (seen a) { nodes = nodes }
  seen-aside nodes is =
      ap (λ p. seen (record b { last = p })) last
      ∙ made _ _ _ _ _ _ _ _
      is
      (ap (λ ys. document ∷ ys ++ part_elements a.last) kept.elements)
      (ap (λ ys. ys ++ part_leaves a.last) kept.leaves)
      refl

-- one of the elements is changed, in the last part
pub elements-last : (a : Inside) (q : Part) (id : ℕ) (f : ElementOf → ElementOf) → IsSound a → a.last.before.elements < id → KeepsElementsAside a.last q
    → part_elements q ≡ set (part_elements a.last) (id - a.last.before.elements - 1) (f (get_or (part_elements a.last) (id - a.last.before.elements - 1) no_element))
    → seen (with_last a q) ≡ record (seen a) { elements = set (seen a).elements id (f (get_or (seen a).elements id no_element)) }
elements-last a q id f sound le kept is =
    let turned : id - a.last.before.elements - 1 ≡ id - 1 - a.last.before.elements = omega arith in
    let back : suc (id - 1) ≡ id = omega arith in
    let own = own_elements a.parts.items a.last in
    let here = edit-last first_element part_elements a.parts.items a.last q (id - 1) f no_element (element-row no_counts (a.parts.items ++ a.last ∷ []) sound.laid) (omega arith)
    (is ∙ ap (λ n. set (part_elements a.last) n (f (get_or (part_elements a.last) n no_element))) turned) in
    made _ _ _ _ _ _ _ _
    (ap (λ ys. flat_map part_nodes a.parts.items ++ ys) (same-nodes a.last q kept.before kept.nodes))
    (ap (λ ys. document ∷ ys) here ∙ ap (λ n. set (document ∷ own) n (f (get_or (document ∷ own) n no_element))) back)
    (ap (λ ys. flat_map part_leaves a.parts.items ++ ys) (same-leaves a.last q kept.leaves))
    kept.free

-- and in another
pub elements-part : (a : Inside) (k id : ℕ) (p q : Part) (f : ElementOf → ElementOf) → IsSound a → k < length a.parts.items → p ≡ get_or a.parts.items k p → HasElement p id → KeepsElementsAside p q
    → part_elements q ≡ set (part_elements p) (id - p.before.elements - 1) (f (get_or (part_elements p) (id - p.before.elements - 1) no_element))
    → seen (with_part a k q) ≡ record (seen a) { elements = set (seen a).elements id (f (get_or (seen a).elements id no_element)) }
elements-part a k id p q f sound h held has kept is =
    let turned : id - p.before.elements - 1 ≡ id - 1 - p.before.elements = omega arith in
    let back : suc (id - 1) ≡ id = omega (arith, has.from) in
    let own = own_elements a.parts.items a.last in
    let here = edit-part first_element part_elements a.parts.items a.last k (id - 1) p q f no_element (element-row no_counts (a.parts.items ++ a.last ∷ []) sound.laid) h held
    (omega (arith, has.from)) (omega (arith, has.from, has.to, element-end p)) (is ∙ ap (λ n. set (part_elements p) n (f (get_or (part_elements p) n no_element))) turned) in
    made _ _ _ _ _ _ _ _
    (ap (λ ys. ys ++ part_nodes a.last) (flat-kept first_node part_nodes a.parts.items k q p (same-nodes p q kept.before kept.nodes ∙ ap part_nodes held)))
    (ap (λ ys. document ∷ ys) here ∙ ap (λ n. set (document ∷ own) n (f (get_or (document ∷ own) n no_element))) back)
    (ap (λ ys. ys ++ part_leaves a.last) (flat-kept first_leaf part_leaves a.parts.items k q p (same-leaves p q kept.leaves ∙ ap part_leaves held)))
    refl

-- one of the leaves is changed, in the last part
pub leaves-last : (a : Inside) (q : Part) (at : ℕ) (f : LeafOf → LeafOf) → IsSound a → a.last.before.leaves ≤ at → KeepsLeavesAside a.last q
    → part_leaves q ≡ set (part_leaves a.last) (at - a.last.before.leaves) (f (leaf_at (part_leaves a.last) (at - a.last.before.leaves))) → seen (with_last a q) ≡ record (seen a) { leaves = set (seen a).leaves at (f (leaf_at (seen a).leaves at)) }
leaves-last a q at f sound le kept is =
    let here = edit-last first_leaf part_leaves a.parts.items a.last q at f no_leaf (leaf-row no_counts (a.parts.items ++ a.last ∷ []) sound.laid) le is in
    made _ _ _ _ _ _ _ _
    (ap (λ ys. flat_map part_nodes a.parts.items ++ ys) (same-nodes a.last q kept.before kept.nodes))
    (ap (λ ys. document ∷ flat_map part_elements a.parts.items ++ ys) (same-elements a.last q kept.before kept.elements))
    here
    kept.free

-- and in another
pub leaves-part : (a : Inside) (k at : ℕ) (p q : Part) (f : LeafOf → LeafOf) → IsSound a → k < length a.parts.items → p ≡ get_or a.parts.items k p → HasLeaf p at → KeepsLeavesAside p q
    → part_leaves q ≡ set (part_leaves p) (at - p.before.leaves) (f (leaf_at (part_leaves p) (at - p.before.leaves))) → seen (with_part a k q) ≡ record (seen a) { leaves = set (seen a).leaves at (f (leaf_at (seen a).leaves at)) }
leaves-part a k at p q f sound h held has kept is =
    let here = edit-part first_leaf part_leaves a.parts.items a.last k at p q f no_leaf (leaf-row no_counts (a.parts.items ++ a.last ∷ []) sound.laid) h held has.from (omega (arith, has.to)) is in
    made _ _ _ _ _ _ _ _
    (ap (λ ys. ys ++ part_nodes a.last) (flat-kept first_node part_nodes a.parts.items k q p (same-nodes p q kept.before kept.nodes ∙ ap part_nodes held)))
    (ap (λ ys. document ∷ ys ++ part_elements a.last) (flat-kept first_element part_elements a.parts.items k q p (same-elements p q kept.before kept.elements ∙ ap part_elements held)))
    here
    refl

-- nodes of the last part were put between others
pub nodes-put : (a : Inside) (q : Part) (at node i j : ℕ) → IsSound a → KeepsNodesAside a.last q → at < 2 ^ 32 → node < 2 ^ 32 → i ≡ way a.last.before.nodes at → j ≡ way a.last.before.nodes node → IsPutBetween a.last.nodes.items q.nodes.items i j
    → seen (with_last a q) ≡ record (seen a) { nodes = put_between (seen a).nodes at node }
nodes-put a q at node i j sound kept at_fits node_fits is_at is_node put =
    let b = a.last.before in
    let front = flat_map part_nodes a.parts.items in
    let at_is : b.nodes + i ≡ at = omega (arith, is_at, way-place b.nodes at (length a.last.nodes.items) sound.fits.nodes at_fits (subst (λ k. k < length a.last.nodes.items) is_at put.at_in)) in
    let node_is : b.nodes + j ≡ node = omega (arith, is_node, way-place b.nodes node (length a.last.nodes.items) sound.fits.nodes node_fits (subst (λ k. k < length a.last.nodes.items) is_node put.node_in)) in
    made _ _ _ _ _ _ _ _
    (ap (λ (c : Counts). front ++ map (raised_node c) q.nodes.items) kept.before
    ∙ ap (λ ns. front ++ map (raised_node b) ns) put.nodes
    ∙ put-behind b front a.last.nodes.items i j (row-last first_node part_nodes a.parts.items a.last (node-row no_counts (a.parts.items ++ a.last ∷ []) sound.laid)) put.at_in put.node_in put.before_in sound.fits.nodes
    ∙ ap (λ n. put_between (seen a).nodes n (b.nodes + j)) at_is ∙ ap (λ n. put_between (seen a).nodes at n) node_is)
    (ap (λ ys. document ∷ flat_map part_elements a.parts.items ++ ys) (same-elements a.last q kept.before kept.elements))
    (ap (λ ys. flat_map part_leaves a.parts.items ++ ys) (same-leaves a.last q kept.leaves))
    kept.free

-- nothing was changed
pub nodes-same : (a : Inside) (q : Part) → KeepsNodesAside a.last q → q.nodes.items ≡ a.last.nodes.items → seen (with_last a q) ≡ seen a
nodes-same a q kept is =
    made _ _ _ _ _ _ _ _
    (ap (λ (c : Counts). flat_map part_nodes a.parts.items ++ map (raised_node c) q.nodes.items) kept.before ∙ ap (λ ns. flat_map part_nodes a.parts.items ++ map (raised_node a.last.before) ns) is)
    (ap (λ ys. document ∷ flat_map part_elements a.parts.items ++ ys) (same-elements a.last q kept.before kept.elements))
    (ap (λ ys. flat_map part_leaves a.parts.items ++ ys) (same-leaves a.last q kept.leaves))
    kept.free
