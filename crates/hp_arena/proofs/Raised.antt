-- Nodes whose numbers are raised stand behind others, and form the same lists of children.
use Rattle.std.proofs.Common.{◌≡◌, ◌≢◌, ℕ, ◌+◌, ◌-◌, ◌<◌, List, [], ◌∷◌, true, false, ◌==◌, length, map, arith, refl, sym, ap, ◌∙◌, subst, inl, inr, ◌⊎◌}
use Rattle.std.specs.List.{list_any}
use Rattle.std.proofs.lemmas.Bool.{true≢false, cases_lt, cases_eq, or_cases, eqb-true, eq-eqb}
use Rattle.hp_arena.specs.Ring.{Path, Follows}
use Rattle.hp_arena.specs.Nodes.{links_of, kind_of, stops, inside, is_end}
use Rattle.hp_arena.specs.Shape.{IsTree, IsListed, IsAtHome}
use Rattle.hp_store.specs.Lists.{node_of, tag_at}
use Rattle.hp_arena.proofs.Grafting.{raised_kind}
use Rattle.hp_store.specs.declared.node.Node.{Node}
use Rattle.hp_store.specs.declared.node.Kind.{Kind}
use Rattle.hp_store.specs.declared.node.Kind.TheVariants.{End, Element, Leaf}
use Rattle.hp_store.specs.Store.{Element as ElementOf}
use Rattle.hp_store.specs.declared.node.Counts.{Counts}
use Rattle.hp_arena.proofs.Paths.{Avoids, alone-not_on_path, or-left, or-right}
use Rattle.hp_arena.proofs.Walks.{Inner, inside-path, inside-inner, inner-below}
use Rattle.hp_arena.proofs.Detaching.{end-not_node, node-below}
use Rattle.hp_arena.proofs.Growing.{IsGrown, kind-grown, next-grown, prev-grown, inside-grown, ring-grown}

-- the nodes of a grove stand behind those that were there, raised; the node of its document is no element any more
pub record IsBehind (old grove new : List Node) (rise : Counts) (document : ℕ) : Type 0 where
  pub grown : IsGrown old new
  pub by : rise.nodes ≡ length old
  pub count : length new ≡ length old + length grove
  pub next : (s : ℕ) → s < length grove → (links_of new).next (s + rise.nodes) ≡ (links_of grove).next s + rise.nodes
  pub prev : (s : ℕ) → s < length grove → (links_of new).prev (s + rise.nodes) ≡ (links_of grove).prev s + rise.nodes
  pub kind : (s : ℕ) → s < length grove → s ≢ document → kind_of new (s + rise.nodes) ≡ raised_kind rise (kind_of grove s)
  pub blank : kind_of new (document + rise.nodes) ≡ End rise.elements

-- and its elements but the document behind those that were there
pub record AreBehind (old grove new : List ElementOf) (rise : Counts) : Type 0 where
  pub some : 0 < length grove
  pub by : rise.elements + 1 ≡ length old
  pub count : length new ≡ rise.elements + length grove
  pub kept : (id : ℕ) → id < length old → node_of new id ≡ node_of old id
  pub raised : (id : ℕ) → 0 < id → id < length grove → node_of new (id + rise.elements) ≡ node_of grove id + rise.nodes
  pub tag_kept : (id : ℕ) → id < length old → tag_at new id ≡ tag_at old id
  pub tag_raised : (id : ℕ) → 0 < id → id < length grove → tag_at new (id + rise.elements) ≡ tag_at grove id

pub is_end-raised : (rise : Counts) (k : Kind) → is_end (raised_kind rise k) ≡ is_end k
is_end-raised rise (End id) = refl
is_end-raised rise (Element id) = refl
is_end-raised rise (Leaf number) = refl

-- a leaf that was raised
leaf-lowered : (rise : Counts) (k : Kind) (number : ℕ) → raised_kind rise k ≡ Leaf number → (low : ℕ) × ((k ≡ Leaf low) × (number ≡ low + rise.leaves))
leaf-lowered rise (End id) number h = let e : End (id + rise.elements) ≡ Leaf number = h in absurd (cc e)
leaf-lowered rise (Element id) number h = let e : Element (id + rise.elements) ≡ Leaf number = h in absurd (cc e)
leaf-lowered rise (Leaf low) number h =
    let e : Leaf (low + rise.leaves) ≡ Leaf number = h in
    let same : low + rise.leaves ≡ number = cc e in (low, (refl, sym same))

-- what is among nodes is so when all are raised
in-raised : (by s : ℕ) (xs : List ℕ) → list_any (λ y. s == y) xs ≡ true → list_any (λ y. s + by == y) (map (λ y. y + by) xs) ≡ true
in-raised by s [] h = h
in-raised by s (x ∷ xs) h =
    elim (or_cases (s == x) (list_any (λ y. s == y) xs) h) [
      | inl first ↦ or-left (s + by == x + by) (list_any (λ y. s + by == y) (map (λ y. y + by) xs)) (eq-eqb (s + by) (x + by) (ap (λ n. n + by) (eqb-true s x first)))
      | inr later ↦ or-right (s + by == x + by) (list_any (λ y. s + by == y) (map (λ y. y + by) xs)) (in-raised by s xs later)
    ]

one_more : (n by : ℕ) → n + 1 + by ≡ n + by + 1
one_more n by = omega arith

module _ (old grove new : List Node) (oldE groveE newE : List ElementOf) (rise : Counts) (b : IsBehind old grove new rise (node_of groveE 0)) (e : AreBehind oldE groveE newE rise)
    (leaves more : ℕ) (t : IsTree old oldE leaves) (g : IsTree grove groveE more) (nothing : inside grove (node_of groveE 0 + 1) ≡ []) (numbers : rise.leaves ≡ leaves) where
  Follows-raised : (x y : ℕ) → x < length grove → y < length grove → Follows (links_of grove) x y → Follows (links_of new) (x + rise.nodes) (y + rise.nodes)
  Follows-raised x y hx hy f = record { ahead = b.next x hx ∙ ap (λ n. n + rise.nodes) f.ahead; back = b.prev y hy ∙ ap (λ n. n + rise.nodes) f.back }

  Path-raised : (from : ℕ) (xs : List ℕ) (to : ℕ) → from < length grove → to < length grove → Inner (stops grove) xs → Path (links_of grove) from xs to → Path (links_of new) (from + rise.nodes) (map (λ y. y + rise.nodes) xs) (to + rise.nodes)
  Path-raised from [] to hf ht i p = Follows-raised from to hf ht p
  Path-raised from (x ∷ xs) to hf ht i p =
      let hx : x < length grove = inner-below grove x i.0 in
      (Follows-raised from x hf hx p.0, Path-raised x xs to hx ht i.1 p.1)

  stops-raised : (s : ℕ) → s < length grove → s ≢ node_of groveE 0 → stops new (s + rise.nodes) ≡ stops grove s
  stops-raised s h apart = ap is_end (b.kind s h apart) ∙ is_end-raised rise (kind_of grove s)

  Inner-raised : (xs : List ℕ) → Inner (stops grove) xs → Avoids (node_of groveE 0) xs → Inner (stops new) (map (λ y. y + rise.nodes) xs)
  Inner-raised [] i a = tt
  Inner-raised (x ∷ xs) i a = (stops-raised x (inner-below grove x i.0) a.0 ∙ i.0, Inner-raised xs i.1 a.1)

  -- the document's node is in no list
  pub avoids : (id : ℕ) → id < length groveE → Avoids (node_of groveE 0) (inside grove (node_of groveE id + 1))
  avoids id h = (alone-not_on_path (links_of grove) (node_of groveE id + 1) (inside grove (node_of groveE id + 1)) (node_of groveE id + 1) (node_of groveE 0) (g.ring id h) (g.root e.some) (end-not_node grove groveE more g id 0 h e.some)).1

  stops-end_raised : (id : ℕ) → id < length groveE → stops new (node_of groveE id + 1 + rise.nodes) ≡ true
  stops-end_raised id h = stops-raised (node_of groveE id + 1) (g.end_in id h) (end-not_node grove groveE more g id 0 h e.some) ∙ ap is_end (g.end id h)

  path-raised : (id : ℕ) → id < length groveE → Path (links_of new) (node_of groveE id + 1 + rise.nodes) (map (λ y. y + rise.nodes) (inside grove (node_of groveE id + 1))) (node_of groveE id + 1 + rise.nodes)
  path-raised id h = Path-raised (node_of groveE id + 1) (inside grove (node_of groveE id + 1)) (node_of groveE id + 1) (g.end_in id h) (g.end_in id h) (inside-inner grove (node_of groveE id + 1)) (g.ring id h)

  pub inside-raised : (id : ℕ) → id < length groveE → inside new (node_of groveE id + 1 + rise.nodes) ≡ map (λ y. y + rise.nodes) (inside grove (node_of groveE id + 1))
  inside-raised id h = inside-path new (node_of groveE id + 1 + rise.nodes) (map (λ y. y + rise.nodes) (inside grove (node_of groveE id + 1))) (path-raised id h)
      (Inner-raised (inside grove (node_of groveE id + 1)) (inside-inner grove (node_of groveE id + 1)) (avoids id h)) (stops-end_raised id h)

  ring-raised : (id : ℕ) → id < length groveE → Path (links_of new) (node_of groveE id + 1 + rise.nodes) (inside new (node_of groveE id + 1 + rise.nodes)) (node_of groveE id + 1 + rise.nodes)
  ring-raised id h = subst (λ xs. Path (links_of new) (node_of groveE id + 1 + rise.nodes) xs (node_of groveE id + 1 + rise.nodes)) (sym (inside-raised id h)) (path-raised id h)

  -- what holds of each node that was there and of each that was raised
  each-node : (P : ℕ → Type 0) → ((s : ℕ) → s < length old → P s) → ((s : ℕ) → s < length grove → P (s + rise.nodes)) → (s : ℕ) → s < length new → P s
  each-node P olds mores s h =
      elim (cases_lt s (length old)) [
        | inl below ↦ olds s below
        | inr past ↦
            let low : s - rise.nodes < length grove = omega (arith, b.by, b.count) in
            let same : s - rise.nodes + rise.nodes ≡ s = omega (arith, b.by) in subst P same (mores (s - rise.nodes) low)
      ]

  -- and of each element but the grove's document
  pub each-element : (P : ℕ → ℕ → Type 0) → ((id : ℕ) → id < length oldE → P id (node_of oldE id)) → ((id : ℕ) → 0 < id → id < length groveE → P (id + rise.elements) (node_of groveE id + rise.nodes)) → (id : ℕ) → id < length newE → P id (node_of newE id)
  each-element P olds mores id h =
      elim (cases_lt id (length oldE)) [
        | inl below ↦ subst (λ n. P id n) (sym (e.kept id below)) (olds id below)
        | inr past ↦
            let some : 0 < id - rise.elements = omega (arith, e.by) in
            let low : id - rise.elements < length groveE = omega (arith, e.by, e.count) in
            let same : id - rise.elements + rise.elements ≡ id = omega (arith, e.by) in
            subst (λ i. P i (node_of newE i)) same
            (subst (λ n. P (id - rise.elements + rise.elements) n) (sym (e.raised (id - rise.elements) some low)) (mores (id - rise.elements) some low))
      ]

  -- an element but the document has another node
  apart : (id : ℕ) → 0 < id → id < length groveE → node_of groveE id ≢ node_of groveE 0
  apart id some h same =
      let k : Element id ≡ Element 0 = sym (g.element id h) ∙ ap (kind_of grove) same ∙ g.element 0 e.some in
      let zero : id ≡ 0 = cc k in omega arith

  home-kept : (s : ℕ) (k : Kind) → IsAtHome oldE leaves s k → IsAtHome newE (leaves + more) s k
  home-kept s (End id) h = omega (arith, e.by, e.count, e.some)
  home-kept s (Element id) h = (omega (arith, h.0, e.by, e.count, e.some), e.kept id h.0 ∙ h.1)
  home-kept s (Leaf number) h = omega arith

  home-raised : (s : ℕ) (k : Kind) → s ≢ node_of groveE 0 → IsAtHome groveE more s k → IsAtHome newE (leaves + more) (s + rise.nodes) (raised_kind rise k)
  home-raised s (End id) other h = omega (arith, e.count)
  home-raised s (Element id) other h =
      let some : 0 < id = elim (cases_eq id 0) [ inl zero ↦ absurd (other (sym h.1 ∙ ap (node_of groveE) zero)) | inr more ↦ omega arith ] in
      (omega (arith, e.count, h.0), e.raised id some h.0 ∙ ap (λ n. n + rise.nodes) h.1)
  home-raised s (Leaf number) other h = omega (arith, numbers)

  -- where a leaf's node is
  leaf-in : (s number : ℕ) → kind_of new s ≡ Leaf number
      → ((s < length old) × (kind_of old s ≡ Leaf number)) ⊎ ((r : ℕ) × ((low : ℕ) × ((s ≡ r + rise.nodes) × (number ≡ low + rise.leaves) × (kind_of grove r ≡ Leaf low))))
  leaf-in s number k =
      let below : s < length new = inner-below new s (ap is_end k) in
      elim (cases_lt s (length old)) [
        | inl h ↦ inl (h, sym (kind-grown old new b.grown s h) ∙ k)
        | inr past ↦
            let low : s - rise.nodes < length grove = omega (arith, b.by, b.count) in
            let same : s ≡ s - rise.nodes + rise.nodes = omega (arith, b.by) in
            let other : s - rise.nodes ≢ node_of groveE 0 = λ is.
            let no : End rise.elements ≡ Leaf number = sym b.blank ∙ ap (λ n. kind_of new (n + rise.nodes)) (sym is) ∙ ap (kind_of new) (sym same) ∙ k in cc no in
            let raised : raised_kind rise (kind_of grove (s - rise.nodes)) ≡ Leaf number = sym (b.kind (s - rise.nodes) low other) ∙ ap (kind_of new) (sym same) ∙ k in
            let at = leaf-lowered rise (kind_of grove (s - rise.nodes)) number raised in
            inr (s - rise.nodes, (at.0, (same, at.1.1, at.1.0)))
      ]

  number-below : (elements : List ElementOf) (count s : ℕ) (nodes : List Node) (number : ℕ) → IsTree nodes elements count → kind_of nodes s ≡ Leaf number → number < count
  number-below elements count s nodes number tree k =
      let home : IsAtHome elements count s (kind_of nodes s) = tree.home s (inner-below nodes s (ap is_end k)) in subst (λ k'. IsAtHome elements count s k') k home

  leaf_once-behind : (s r number : ℕ) → kind_of new s ≡ Leaf number → kind_of new r ≡ Leaf number → s ≡ r
  leaf_once-behind s r number ks kr =
      elim (leaf-in s number ks) [
        | inl sa ↦ elim (leaf-in r number kr) [
          | inl ra ↦ t.leaf_once s r number sa.1 ra.1
          | inr rb ↦ absurd (omega (arith, numbers, rb.1.1.1, number-below oldE leaves s old number t sa.1))
        ]
        | inr sb ↦ elim (leaf-in r number kr) [
          | inl ra ↦ absurd (omega (arith, numbers, sb.1.1.1, number-below oldE leaves r old number t ra.1))
          | inr rb ↦
              let low : sb.1.0 ≡ rb.1.0 = omega (arith, sb.1.1.1, rb.1.1.1) in
              let same : sb.0 ≡ rb.0 = g.leaf_once sb.0 rb.0 sb.1.0 sb.1.1.2 (rb.1.1.2 ∙ ap Leaf (sym low)) in
              sb.1.1.0 ∙ ap (λ n. n + rise.nodes) same ∙ sym rb.1.1.0
        ]
      ]

  listed-raised : (r : ℕ) → r < length grove → stops new (r + rise.nodes) ≡ false → (links_of new).next (r + rise.nodes) ≢ r + rise.nodes → IsListed new newE (r + rise.nodes)
  listed-raised r h i away =
      let other : r ≢ node_of groveE 0 = λ is. true≢false (sym (ap is_end b.blank) ∙ ap (λ n. stops new (n + rise.nodes)) (sym is) ∙ i) in
      let there : IsListed grove groveE r = g.listed r (sym (stops-raised r h other) ∙ i) (λ same. away (b.next r h ∙ ap (λ n. n + rise.nodes) same)) in
      let some : 0 < there.0 = elim (cases_eq there.0 0) [
        | inl zero ↦ absurd (true≢false (sym there.1.1 ∙ ap (λ id. list_any (λ y. r == y) (inside grove (node_of groveE id + 1))) zero ∙ ap (list_any (λ y. r == y)) nothing))
        | inr more ↦ omega arith
      ] in
      let ends : node_of newE (there.0 + rise.elements) + 1 ≡ node_of groveE there.0 + 1 + rise.nodes = omega (arith, e.raised there.0 some there.1.0) in (
        there.0 + rise.elements,
        (
          omega (arith, there.1.0, e.count),
          subst (λ n. list_any (λ y. r + rise.nodes == y) (inside new n) ≡ true) (sym ends)
              (subst (λ xs. list_any (λ y. r + rise.nodes == y) xs ≡ true) (sym (inside-raised there.0 there.1.0)) (in-raised rise.nodes r (inside grove (node_of groveE there.0 + 1)) there.1.1)),
        ),
      )

  listed-behind : (s : ℕ) → stops new s ≡ false → (links_of new).next s ≢ s → IsListed new newE s
  listed-behind s i away =
      elim (cases_lt s (length old)) [
        | inl below ↦
            let there : IsListed old oldE s = t.listed s (sym (ap is_end (kind-grown old new b.grown s below)) ∙ i) (λ same. away (next-grown old new b.grown s below ∙ same)) in (
              there.0,
              (
                omega (arith, there.1.0, e.by, e.count, e.some),
                subst (λ n. list_any (λ y. s == y) (inside new (n + 1)) ≡ true) (sym (e.kept there.0 there.1.0))
                    (subst (λ xs. list_any (λ y. s == y) xs ≡ true) (sym (inside-grown old new b.grown oldE leaves t there.0 there.1.0)) there.1.1),
              ),
            )
        | inr past ↦
            let below : s < length new = inner-below new s i in
            let low : s - rise.nodes < length grove = omega (arith, b.by, b.count) in
            let same : s - rise.nodes + rise.nodes ≡ s = omega (arith, b.by) in
            subst (λ n. IsListed new newE n) same
            (listed-raised (s - rise.nodes) low (ap (stops new) same ∙ i) (λ own. away (ap (links_of new).next (sym same) ∙ own ∙ same)))
      ]

  pub IsTree-behind : IsTree new newE (leaves + more)
  IsTree-behind = record {
    closed = record {
      next = each-node (λ s. (links_of new).next s < length new)
          (λ s h. subst (λ n. n < length new) (sym (next-grown old new b.grown s h)) (omega (arith, t.closed.next s h, b.count)))
          (λ s h. subst (λ n. n < length new) (sym (b.next s h)) (omega (arith, g.closed.next s h, b.count, b.by)));
      prev = each-node (λ s. (links_of new).prev s < length new)
          (λ s h. subst (λ n. n < length new) (sym (prev-grown old new b.grown s h)) (omega (arith, t.closed.prev s h, b.count)))
          (λ s h. subst (λ n. n < length new) (sym (b.prev s h)) (omega (arith, g.closed.prev s h, b.count, b.by)));
    };
    ringed = record {
      after = each-node (λ s. (links_of new).prev ((links_of new).next s) ≡ s)
          (λ s h. ap (links_of new).prev (next-grown old new b.grown s h) ∙ prev-grown old new b.grown ((links_of old).next s) (t.closed.next s h) ∙ t.ringed.after s h)
          (λ s h. ap (links_of new).prev (b.next s h) ∙ b.prev ((links_of grove).next s) (g.closed.next s h) ∙ ap (λ n. n + rise.nodes) (g.ringed.after s h));
      before = each-node (λ s. (links_of new).next ((links_of new).prev s) ≡ s)
          (λ s h. ap (links_of new).next (prev-grown old new b.grown s h) ∙ next-grown old new b.grown ((links_of old).prev s) (t.closed.prev s h) ∙ t.ringed.before s h)
          (λ s h. ap (links_of new).next (b.prev s h) ∙ b.next ((links_of grove).prev s) (g.closed.prev s h) ∙ ap (λ n. n + rise.nodes) (g.ringed.before s h));
    };
    ring = each-element (λ id n. Path (links_of new) (n + 1) (inside new (n + 1)) (n + 1)) (ring-grown old new b.grown oldE leaves t)
        (λ id some h. subst (λ n. Path (links_of new) n (inside new n) n) (one_more (node_of groveE id) rise.nodes) (ring-raised id h));
    end_in = each-element (λ id n. n + 1 < length new) (λ id h. omega (arith, t.end_in id h, b.count)) (λ id some h. omega (arith, g.end_in id h, b.count, b.by));
    element = each-element (λ id n. kind_of new n ≡ Element id)
        (λ id h. kind-grown old new b.grown (node_of oldE id) (node-below old oldE leaves t id h) ∙ t.element id h)
        (λ id some h. b.kind (node_of groveE id) (node-below grove groveE more g id h) (apart id some h) ∙ ap (raised_kind rise) (g.element id h));
    end = each-element (λ id n. kind_of new (n + 1) ≡ End id)
        (λ id h. kind-grown old new b.grown (node_of oldE id + 1) (t.end_in id h) ∙ t.end id h)
        (λ id some h. ap (kind_of new) (sym (one_more (node_of groveE id) rise.nodes)) ∙ b.kind (node_of groveE id + 1) (g.end_in id h) (end-not_node grove groveE more g id 0 h e.some) ∙ ap (raised_kind rise) (g.end id h));
    home = each-node (λ s. IsAtHome newE (leaves + more) s (kind_of new s))
        (λ s h. subst (λ k. IsAtHome newE (leaves + more) s k) (sym (kind-grown old new b.grown s h)) (home-kept s (kind_of old s) (t.home s h)))
        (λ s h. elim (cases_eq s (node_of groveE 0)) [
          | inl same ↦ subst (λ n. IsAtHome newE (leaves + more) (n + rise.nodes) (kind_of new (n + rise.nodes))) (sym same)
              (subst (λ k. IsAtHome newE (leaves + more) (node_of groveE 0 + rise.nodes) k) (sym b.blank) (omega (arith, e.count, e.some)))
          | inr other ↦ subst (λ k. IsAtHome newE (leaves + more) (s + rise.nodes) k) (sym (b.kind s h other)) (home-raised s (kind_of grove s) other (g.home s h))
        ]);
    leaf_once = leaf_once-behind;
    listed = listed-behind;
    root = λ some.
        let first : 0 < length oldE = omega (arith, e.by) in
        subst (λ n. (links_of new).next n ≡ n) (sym (e.kept 0 first)) (next-grown old new b.grown (node_of oldE 0) (node-below old oldE leaves t 0 first) ∙ t.root first);
  }
