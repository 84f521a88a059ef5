-- The parts of one store behind those of another.
use Rattle.std.proofs.Common.{◌≡◌, ℕ, ◌+◌, ◌-◌, ◌^◌, ◌<◌, ◌≤◌, List, [], ◌∷◌, ◌++◌, length, map, get_or, set, flat_map, Some, Result, Ok, Err, is_err, false, arith, refl, ap, sym, ◌∙◌, subst, append_assoc}
use Rattle.std.specs.Prelude.{OnOk}
use Rattle.std.proofs.lemmas.Bool.{true≢false}
use Rattle.std.proofs.lemmas.List.{map-append, append-nil, length-append, length-map}
use Rattle.std.proofs.lemmas.List.Concat.{flat_map-append}
use Rattle.hp_store.specs.declared.node.Counts.{Counts}
use Rattle.hp_store.specs.declared.node.Kind.{Kind}
use Rattle.hp_store.specs.declared.node.Kind.TheVariants.{End, Element, Leaf}
use Rattle.hp_store.specs.declared.node.Node.{Node}
use Rattle.hp_store.specs.declared.part.Element.{Element as OwnElement}
use Rattle.hp_store.specs.declared.part.Part.{Part}
use Rattle.hp_store.specs.declared.store.Store.TheInside.{Inside}
use Rattle.hp_store.specs.Numbers.{Fits, sum_of, counted, element_in, no_counts}
use Rattle.hp_store.specs.Grafting.{counts_of, raised_kind, raised_node, raised_element, retired, IsAppended}
use Rattle.hp_store.specs.Lists.{node_at, document}
use Rattle.hp_store.specs.Parts.{part_nodes, part_elements, part_leaves, end_of, moved_part, AreLaid, IsEmptied, KeepsNodesAside, SameItems}
use Rattle.hp_store.specs.Whole.{seen, IsSound, IsFilled, IsFinished, IsRetired, own_elements, all_leaves, part_of}
use Rattle.hp_store.proofs.Wraps.{counted-further}
use Rattle.hp_store.proofs.Listed.{joined_node, tagged}
use Rattle.hp_store.proofs.Laying.{start-within, count-nodes, count-elements, count-leaves}
use Rattle.hp_store.proofs.Shrinking.{same-nodes, same-end, same-laid, same-first}
use Rattle.hp_store.proofs.Shrinking.{same-elements as taken-elements, same-leaves as taken-leaves}
use Rattle.hp_store.proofs.Whole.{first_count, nodes-part, nodes-end, KeepsPartsAside-set, same-elements, same-leaves}

abbrev counts : ℕ → ℕ → ℕ → Counts
counts nodes elements leaves = record { nodes = nodes; elements = elements; leaves = leaves }

pub counted_so : (n m e f l k : ℕ) → n ≡ m → e ≡ f → l ≡ k → counts n e l ≡ counts m f k
counted_so n m e f l k hn he hl = ap (λ x. counts x e l) hn ∙ ap (λ x. counts m x l) he ∙ ap (λ x. counts m f x) hl

raised-kind : (more before : Counts) (kind : Kind) → raised_kind (sum_of more before) kind ≡ raised_kind more (raised_kind before kind)
raised-kind more before (End id) = ap End (counted-further more.elements before.elements id)
raised-kind more before (Element id) = ap Element (counted-further more.elements before.elements id)
raised-kind more before (Leaf number) = ap Leaf (counted-further more.leaves before.leaves number)

raised-node : (more before : Counts) (n : Node) → raised_node (sum_of more before) n ≡ raised_node more (raised_node before n)
raised-node more before n =
    ap (λ p. joined_node p (counted (more.nodes + before.nodes) n.next) (raised_kind (sum_of more before) n.kind)) (counted-further more.nodes before.nodes n.prev)
    ∙ ap (λ p. joined_node (counted more.nodes (counted before.nodes n.prev)) p (raised_kind (sum_of more before) n.kind)) (counted-further more.nodes before.nodes n.next)
    ∙ ap (joined_node (counted more.nodes (counted before.nodes n.prev)) (counted more.nodes (counted before.nodes n.next))) (raised-kind more before n.kind)

-- a list that is changed at once, or in two steps
twice : {A B C : Type 0} (f : A → C) (g : A → B) (h : B → C) → ((x : A) → f x ≡ h (g x)) → (xs : List A) → map f xs ≡ map h (map g xs)
twice f g h each [] = refl
twice f g h each (x ∷ xs) = ap (λ y. y ∷ map f xs) (each x) ∙ ap (λ ys. h (g x) ∷ ys) (twice f g h each xs)

-- the lists of a part behind so much more
moved-nodes : (more : Counts) (p : Part) → part_nodes (moved_part more p) ≡ map (raised_node more) (part_nodes p)
moved-nodes more p = twice (raised_node (sum_of more p.before)) (raised_node p.before) (raised_node more) (raised-node more p.before) p.nodes.items

moved-elements : (more : Counts) (p : Part) → part_elements (moved_part more p) ≡ map (raised_element more.nodes) (part_elements p)
moved-elements more p =
    twice (element_in (more.nodes + p.before.nodes)) (element_in p.before.nodes) (raised_element more.nodes) (λ (e : OwnElement). ap (λ n. tagged (Some e.tag) n) (counted-further more.nodes p.before.nodes e.node)) p.elements.items

same : {A : Type 0} (xs : List A) → xs ≡ map (λ x. x) xs
same [] = refl
same (x ∷ xs) = ap (λ ys. x ∷ ys) (same xs)

moved-leaves : (more : Counts) (p : Part) → part_leaves (moved_part more p) ≡ map (λ l. l) (part_leaves p)
moved-leaves more p = same p.leaves.items

sum-nested : (a b c : Counts) → sum_of a (sum_of b c) ≡ sum_of (sum_of a b) c
sum-nested a b c = counted_so _ _ _ _ _ _ (omega arith) (omega arith) (omega arith)

sum-none : (a : Counts) → sum_of a no_counts ≡ a
sum-none a = counted_so _ _ _ _ _ _ (omega arith) (omega arith) (omega arith)

AreLaid-moved : (more from : Counts) (ps : List Part) → AreLaid from ps → AreLaid (sum_of more from) (map (moved_part more) ps)
AreLaid-moved more from [] laid = tt
AreLaid-moved more from (p ∷ ps) laid =
    (ap (sum_of more) laid.0, subst (λ c. AreLaid c (map (moved_part more) ps)) (sum-nested more p.before (counts (length p.nodes.items) (length p.elements.items) (length p.leaves.items))) (AreLaid-moved more (end_of p) ps laid.1))

-- laid parts come behind laid parts
AreLaid-behind : (from : Counts) (ps : List Part) (last : Part) (qs : List Part) → AreLaid from (ps ++ last ∷ []) → AreLaid (end_of last) qs → AreLaid from ((ps ++ last ∷ []) ++ qs)
AreLaid-behind from [] last qs laid more = (laid.0, more)
AreLaid-behind from (p ∷ ps) last qs laid more = (laid.0, AreLaid-behind (end_of p) ps last qs laid.1 more)

-- laid parts come in the place of the last one
AreLaid-after : (from : Counts) (ps : List Part) (last : Part) (qs : List Part) → AreLaid from (ps ++ last ∷ []) → AreLaid last.before qs → AreLaid from (ps ++ qs)
AreLaid-after from [] last qs laid more = subst (λ c. AreLaid c qs) laid.0 more
AreLaid-after from (p ∷ ps) last qs laid more = (laid.0, AreLaid-after (end_of p) ps last qs laid.1 more)

-- no item is no list
pub none : {A : Type 0} (xs : List A) → length xs ≡ 0 → xs ≡ []
none [] h = refl
none (x ∷ xs) h = absurd (omega (arith, h))

-- nothing was to be finished
pub IsFinished-bare : (ps qs : List Part) (last : Part) → qs ≡ ps → AreLaid no_counts (ps ++ last ∷ []) → IsFilled last → length last.nodes.items ≡ 0 → IsFinished ps last qs last
IsFinished-bare ps qs last is laid filled bare =
    let nodes : last.nodes.items ≡ [] = none last.nodes.items bare in
    let elements : last.elements.items ≡ [] = none last.elements.items (omega (arith, filled, bare)) in
    let leaves : last.leaves.items ≡ [] = none last.leaves.items (omega (arith, filled, bare)) in
    subst (λ rs. IsFinished ps last rs last) (sym is) (record {
      laid = laid;
      before = counted_so _ _ _ _ _ _ (omega (arith, bare)) (omega (arith, ap length elements)) (omega (arith, ap length leaves));
      nodes = sym (ap (λ xs. flat_map part_nodes ps ++ map (raised_node last.before) xs) nodes ∙ append-nil (flat_map part_nodes ps));
      elements = sym (ap (λ xs. flat_map part_elements ps ++ map (element_in last.before.nodes) xs) elements ∙ append-nil (flat_map part_elements ps));
      leaves = sym (ap (λ xs. flat_map part_leaves ps ++ xs) leaves ∙ append-nil (flat_map part_leaves ps));
      no_nodes = nodes;
      no_elements = elements;
      no_leaves = leaves;
      free = record { nodes = omega arith; elements = omega arith; leaves = omega arith };
      few = omega arith;
      first = refl;
    })

-- the items of a part that was hung behind others
hung : {B : Type 0} (items : Part → List B) (ps : List Part) (last : Part) → flat_map items (ps ++ last ∷ []) ≡ flat_map items ps ++ items last
hung items ps last = flat_map-append items ps (last ∷ []) ∙ ap (λ ys. flat_map items ps ++ ys) (append-nil (items last))

first-hung : (ps : List Part) (last fresh : Part) → (part_of (ps ++ last ∷ []) fresh 0).nodes.items ≡ (part_of ps last 0).nodes.items
first-hung [] last fresh = refl
first-hung (p ∷ ps) last fresh = refl

-- the part that grew was finished: its items were taken out
pub IsFinished-taken : (ps qs : List Part) (last done fresh : Part) → qs ≡ ps ++ done ∷ [] → AreLaid no_counts (ps ++ last ∷ []) → SameItems last done → IsEmptied last fresh → IsFinished ps last qs fresh
IsFinished-taken ps qs last done fresh is laid same new =
    subst (λ rs. IsFinished ps last rs fresh) (sym is) (record {
      laid = AreLaid-behind no_counts ps done (fresh ∷ []) (same-laid last done same no_counts ps laid) (new.before ∙ sym (same-end last done same), tt);
      before = new.before;
      nodes = hung part_nodes ps done ∙ ap (λ xs. flat_map part_nodes ps ++ xs) (same-nodes last done same);
      elements = hung part_elements ps done ∙ ap (λ xs. flat_map part_elements ps ++ xs) (taken-elements last done same);
      leaves = hung part_leaves ps done ∙ ap (λ xs. flat_map part_leaves ps ++ xs) (taken-leaves last done same);
      no_nodes = new.nodes;
      no_elements = new.elements;
      no_leaves = new.leaves;
      free = new.free;
      few = omega (arith, length-append ps (done ∷ []));
      first = first-hung ps done fresh ∙ same-first last done same ps;
    })

abbrev pub as_end : Node → Node
as_end n = record { prev = n.prev; next = n.next; kind = End 0 }

-- the document's node becomes an end, in the first part
pub end-written : (b : Counts) (ns : List Node) (n : Node) → b ≡ no_counts → 0 < length ns → n ≡ get_or ns 0 n
    → map (raised_node b) (set ns 0 (as_end n)) ≡ set (map (raised_node b) ns) (0 - b.nodes) (as_end (node_at (map (raised_node b) ns) (0 - b.nodes)))
end-written b [] n bare some held = absurd (omega arith)
end-written b (m ∷ ns) n bare some held =
    let zero_nodes : 0 - b.nodes ≡ 0 = omega arith in
    let no_number : counted b.elements 0 ≡ 0 = ap (λ (c : Counts). counted c.elements 0) bare in
    let way : map (raised_node b) (set (m ∷ ns) 0 (as_end n)) ≡ as_end (raised_node b m) ∷ map (raised_node b) ns =
    ap (λ k. joined_node (counted b.nodes n.prev) (counted b.nodes n.next) (End k) ∷ map (raised_node b) ns) no_number
    ∙ ap (λ x. as_end (raised_node b x) ∷ map (raised_node b) ns) held in
    way ∙ ap (λ i. set (map (raised_node b) (m ∷ ns)) i (as_end (node_at (map (raised_node b) (m ∷ ns)) i))) (sym zero_nodes)

pub IsRetired-last : (ps qs : List Part) (last q : Part) → qs ≡ ps → length ps ≡ 0 → AreLaid no_counts (ps ++ last ∷ []) → KeepsNodesAside last q
    → part_nodes q ≡ set (part_nodes last) (0 - last.before.nodes) (as_end (node_at (part_nodes last) (0 - last.before.nodes))) → IsRetired ps last qs q
IsRetired-last [] qs last q same_parts bare laid kept is =
    let zero_nodes : 0 - last.before.nodes ≡ 0 = omega arith in
    subst (λ rs. IsRetired [] last rs q) (sym same_parts) (record {
      laid = (kept.before ∙ laid.0, tt);
      end = nodes-end last q kept;
      count = refl;
      nodes = is ∙ ap (λ i. set (part_nodes last) i (as_end (node_at (part_nodes last) i))) zero_nodes;
      elements = same-elements last q kept.before kept.elements;
      leaves = same-leaves last q kept.leaves;
    })
IsRetired-last (p ∷ ps) qs last q same_parts bare laid kept is = absurd (omega (arith, bare))

pub IsRetired-part : (ps qs : List Part) (last p q : Part) → qs ≡ set ps 0 q → 0 < length ps → p ≡ get_or ps 0 p → 0 < length p.nodes.items → AreLaid no_counts (ps ++ last ∷ []) → KeepsNodesAside p q
    → part_nodes q ≡ set (part_nodes p) (0 - p.before.nodes) (as_end (node_at (part_nodes p) (0 - p.before.nodes))) → IsRetired ps last qs last
IsRetired-part [] qs last p q changed some held filled laid kept is = absurd (omega arith)
IsRetired-part (r ∷ ps) qs last p q changed some held filled laid kept is =
    let bare : p.before ≡ no_counts = ap (λ x. x.before) held ∙ laid.0 in
    let aside = KeepsPartsAside-set (r ∷ ps) last 0 p q laid some held kept in
    subst (λ rs. IsRetired (r ∷ ps) last rs last) (sym changed) (record {
      laid = aside.laid;
      end = refl;
      count = aside.count;
      nodes = nodes-part (r ∷ ps) last 0 0 p q as_end laid some held (record { from = omega (arith, ap (λ c. c.nodes) bare); to = omega (arith, filled) }) is;
      elements = ap (λ ys. ys ++ part_elements last) aside.elements;
      leaves = ap (λ ys. ys ++ part_leaves last) aside.leaves;
    })

-- a list of a whole store, where moved parts have come
module _ {B : Type 0} (items : Part → List B) (r : B → B) (k : Counts) (moved : (p : Part) → items (moved_part k p) ≡ map r (items p)) where
  flat-moved : (qs : List Part) → flat_map items (map (moved_part k) qs) ≡ map r (flat_map items qs)
  flat-moved [] = refl
  flat-moved (q ∷ qs) = ap (λ ys. ys ++ flat_map items (map (moved_part k) qs)) (moved q) ∙ ap (λ ys. map r (items q) ++ ys) (flat-moved qs) ∙ sym (map-append r (items q) (flat_map items qs))

  whole-appended : (finished : List Part) (front : List B) (qs : List Part) (other fresh : Part) → flat_map items finished ≡ front → items fresh ≡ []
      → flat_map items ((finished ++ map (moved_part k) qs) ++ moved_part k other ∷ []) ++ items fresh ≡ front ++ map r (flat_map items qs ++ items other)
  whole-appended finished front qs other fresh is nothing =
      ap (λ ys. flat_map items ((finished ++ map (moved_part k) qs) ++ moved_part k other ∷ []) ++ ys) nothing
      ∙ append-nil (flat_map items ((finished ++ map (moved_part k) qs) ++ moved_part k other ∷ []))
      ∙ hung items (finished ++ map (moved_part k) qs) (moved_part k other)
      ∙ ap (λ ys. flat_map items (finished ++ map (moved_part k) qs) ++ ys) (moved other)
      ∙ ap (λ ys. ys ++ map r (items other)) (flat_map-append items finished (map (moved_part k) qs))
      ∙ ap (λ ys. (ys ++ flat_map items (map (moved_part k) qs)) ++ map r (items other)) is
      ∙ ap (λ ys. (front ++ ys) ++ map r (items other)) (flat-moved qs)
      ∙ append_assoc front (map r (flat_map items qs)) (map r (items other))
      ∙ ap (λ ys. front ++ ys) (sym (map-append r (flat_map items qs) (items other)))

first-behind : (ps qs rs : List Part) (fresh last : Part) → fresh.nodes.items ≡ [] → 0 < first_count ps fresh → 0 < first_count ((ps ++ qs) ++ rs) last
first-behind [] qs rs fresh last bare some = absurd (omega (arith, ap length bare))
first-behind (p ∷ ps) qs rs fresh last bare some = some

-- so much comes before a part of the other store, with these before
pub moved-fits : (more : Counts) (ps : List Part) (last : Part) → AreLaid no_counts (ps ++ last ∷ []) → Fits (sum_of more (end_of last)) → (k : ℕ) → Fits (sum_of more (part_of ps last k).before)
moved-fits more ps last laid fits k =
    let within = start-within no_counts ps last laid k in
    record { nodes = omega (arith, within.nodes, fits.nodes); elements = omega (arith, within.elements, fits.elements); leaves = omega (arith, within.leaves, fits.leaves) }

-- numbers of both stores fit
pub both-fit : (a b : Inside) → IsSound a → IsSound b → length (seen a).nodes + length (seen b).nodes ≤ 2 ^ 30 → length (seen a).elements + length (seen b).elements ≤ 2 ^ 30 → length (seen a).leaves + length (seen b).leaves ≤ 2 ^ 30
    → Fits (sum_of (end_of a.last) (end_of b.last))
both-fit a b own others nodes elements leaves = record {
  nodes = omega (arith, nodes, count-nodes a.parts.items a.last own.laid, count-nodes b.parts.items b.last others.laid);
  elements = omega (arith, elements, count-elements a.parts.items a.last own.laid, count-elements b.parts.items b.last others.laid);
  leaves = omega (arith, leaves, count-leaves a.parts.items a.last own.laid, count-leaves b.parts.items b.last others.laid);
}

-- so do those of the other's last part behind these
pub last-fits : (more : Counts) (other : Part) → Fits (sum_of more (end_of other)) → Fits (sum_of more other.before)
last-fits more other fits = record { nodes = omega (arith, fits.nodes); elements = omega (arith, fits.elements); leaves = omega (arith, fits.leaves) }

pub moved-end : (more : Counts) (other : Part) → sum_of more (end_of other) ≡ end_of (moved_part more other)
moved-end more other = sum-nested more other.before (counts (length other.nodes.items) (length other.elements.items) (length other.leaves.items))

-- what holds where nothing failed
pub at-ok : {T E P : Type 0} (r : Result T E) → is_err r ≡ false → OnOk r P → P
at-ok (Ok x) fine p = p
at-ok (Err e) fine p = absurd (true≢false fine)

-- how much there is in the whole
counts-seen : (a : Inside) → IsSound a → counts_of (seen a) ≡ end_of a.last
counts-seen a sound = counted_so _ _ _ _ _ _ (count-nodes a.parts.items a.last sound.laid) (omega (arith, count-elements a.parts.items a.last sound.laid)) (count-leaves a.parts.items a.last sound.laid)

-- the store after an append: what was finished, then the other's parts, with these before them
module _ (a b n : Inside) (own : IsSound a) (others : IsSound b) (finished : List Part) (fresh : Part) (done : IsFinished a.parts.items a.last finished fresh)
    (qs : List Part) (other : Part) (retired_is : IsRetired b.parts.items b.last qs other) (k : Counts) (k_is : k ≡ fresh.before)
    (parts : n.parts.items ≡ (finished ++ map (moved_part k) qs) ++ moved_part k other ∷ []) (last : n.last ≡ record fresh { before = end_of (moved_part k other) }) where
  no-nodes : part_nodes n.last ≡ []
  no-nodes = ap part_nodes last ∙ ap (map (raised_node (end_of (moved_part k other)))) done.no_nodes

  no-elements : part_elements n.last ≡ []
  no-elements = ap part_elements last ∙ ap (map (element_in (end_of (moved_part k other)).nodes)) done.no_elements

  no-leaves : part_leaves n.last ≡ []
  no-leaves = ap part_leaves last ∙ done.no_leaves

  k_end : k ≡ end_of a.last
  k_end = k_is ∙ done.before

  pub IsAppended-seen : IsAppended (seen a) (seen b) (seen n)
  IsAppended-seen =
      let same_counts : counts_of (seen a) ≡ k = counts-seen a own ∙ sym k_end in
      record {
        nodes = ap (λ ps. flat_map part_nodes ps ++ part_nodes n.last) parts
            ∙ whole-appended part_nodes (raised_node k) k (moved-nodes k) finished (seen a).nodes qs other n.last done.nodes no-nodes
            ∙ ap (λ ns. (seen a).nodes ++ map (raised_node k) ns) retired_is.nodes
            ∙ ap (λ c. (seen a).nodes ++ map (raised_node c) (retired (seen b).nodes 0)) (sym same_counts);
        elements = ap (λ ps. document ∷ flat_map part_elements ps ++ part_elements n.last) parts
            ∙ ap (λ es. document ∷ es) (whole-appended part_elements (raised_element k.nodes) k (moved-elements k) finished (own_elements a.parts.items a.last) qs other n.last done.elements no-elements)
            ∙ ap (λ es. (seen a).elements ++ map (raised_element k.nodes) es) retired_is.elements
            ∙ ap (λ (c : Counts). (seen a).elements ++ map (raised_element c.nodes) (own_elements b.parts.items b.last)) (sym same_counts);
        leaves = ap (λ ps. flat_map part_leaves ps ++ part_leaves n.last) parts
            ∙ whole-appended part_leaves (λ l. l) k (moved-leaves k) finished (seen a).leaves qs other n.last done.leaves no-leaves
            ∙ ap (λ ls. (seen a).leaves ++ ls) (sym (same (all_leaves qs other)) ∙ retired_is.leaves);
      }

  AreLaid-all : AreLaid no_counts (((finished ++ map (moved_part k) qs) ++ moved_part k other ∷ []) ++ n.last ∷ [])
  AreLaid-all =
      let moved : AreLaid k (map (moved_part k) qs ++ moved_part k other ∷ []) =
      subst (λ xs. AreLaid k xs) (map-append (moved_part k) qs (other ∷ [])) (subst (λ c. AreLaid c (map (moved_part k) (qs ++ other ∷ []))) (sum-none k) (AreLaid-moved k no_counts (qs ++ other ∷ []) retired_is.laid)) in
      let laid : AreLaid no_counts ((finished ++ map (moved_part k) qs) ++ moved_part k other ∷ []) =
      subst (λ xs. AreLaid no_counts xs) (sym (append_assoc finished (map (moved_part k) qs) (moved_part k other ∷ [])))
      (AreLaid-after no_counts finished fresh (map (moved_part k) qs ++ moved_part k other ∷ []) done.laid (subst (λ c. AreLaid c (map (moved_part k) qs ++ moved_part k other ∷ [])) k_is moved)) in
      AreLaid-behind no_counts (finished ++ map (moved_part k) qs) (moved_part k other) (n.last ∷ []) laid (ap (λ p. p.before) last, tt)

  pub IsSound-appended : Fits (sum_of (end_of a.last) (end_of b.last)) → length a.parts.items + length b.parts.items + 2 < 2 ^ 32 → IsSound n
  IsSound-appended fits few =
      let ends : sum_of (end_of a.last) (end_of b.last) ≡ end_of (moved_part k other) =
      ap (λ c. sum_of c (end_of b.last)) (sym k_end) ∙ ap (sum_of k) (sym retired_is.end) ∙ sum-nested k other.before (counts (length other.nodes.items) (length other.elements.items) (length other.leaves.items)) in
      let all : Fits (end_of (moved_part k other)) = subst (λ c. Fits c) ends fits in
      let no_items : (length n.last.nodes.items ≡ 0) × ((length n.last.elements.items ≡ 0) × (length n.last.leaves.items ≡ 0)) =
      (ap (λ p. length p.nodes.items) last ∙ ap length done.no_nodes, (ap (λ p. length p.elements.items) last ∙ ap length done.no_elements, ap (λ p. length p.leaves.items) last ∙ ap length done.no_leaves)) in
      let before : n.last.before ≡ end_of (moved_part k other) = ap (λ p. p.before) last in
      record {
        laid = subst (λ ps. AreLaid no_counts (ps ++ n.last ∷ [])) (sym parts) AreLaid-all;
        fits = record {
          nodes = omega (arith, no_items.0, ap (λ c. c.nodes) before, all.nodes);
          elements = omega (arith, no_items.1.0, ap (λ c. c.elements) before, all.elements);
          leaves = omega (arith, no_items.1.1, ap (λ c. c.leaves) before, all.leaves);
        };
        few = omega (arith, few, done.few, retired_is.count, ap length parts, length-append (finished ++ map (moved_part k) qs) (moved_part k other ∷ []), length-append finished (map (moved_part k) qs), length-map qs (moved_part k));
        first = subst (λ ps. 0 < first_count ps n.last) (sym parts) (first-behind finished (map (moved_part k) qs) (moved_part k other ∷ []) fresh n.last done.no_nodes (omega (arith, ap length done.first, own.first)));
        filled = omega (arith, no_items.0, no_items.1.0, no_items.1.1);
      }
