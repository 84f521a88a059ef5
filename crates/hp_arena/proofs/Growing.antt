-- Nodes are added that are alone.
use Rattle.std.proofs.Common.{◌≡◌, ◌≢◌, ℕ, ◌+◌, ◌<◌, ◌≤◌, List, [], ◌∷◌, ◌++◌, true, false, length, map, arith, refl, sym, ap, ◌∙◌, subst, inl, inr, ◌⊎◌, ◌==◌}
use Rattle.std.proofs.lemmas.Bool.{cases_lt, cases_eq}
use Rattle.std.proofs.lemmas.List.{length-append, get_or_append_left, get_or-append-add}
use Rattle.std.proofs.Math.Seq.{get_or-append_seam}
use Rattle.hp_control.specs.Tree.{Item}
use Rattle.hp_arena.specs.Ring.{Path, Follows}
use Rattle.hp_arena.specs.Nodes.{links_of, kind_of, stops, inside, is_end, IsRinged, IsClosed}
use Rattle.hp_store.specs.Lists.{node_at, blank, node_of, no_element, alone}
use Rattle.std.specs.List.{list_any}
use Rattle.hp_arena.specs.Shape.{IsTree, IsListed, IsAtHome, item_of, kind_item, no_item, with_leaf}
use Rattle.hp_store.specs.declared.node.Node.{Node}
use Rattle.hp_store.specs.declared.node.Kind.{Kind}
use Rattle.hp_store.specs.declared.node.Kind.TheVariants.{End, Element, Leaf}
use Rattle.hp_store.specs.Store.{Element as ElementOf}
use Rattle.hp_arena.proofs.Walks.{Inner, inside-path, inside-inner, inner-below}
use Rattle.hp_arena.proofs.Shapes.{stops-end}

-- the nodes that were there are as they were
pub record IsGrown (old new : List Node) : Type 0 where
  pub kept : (s : ℕ) → s < length old → node_at new s ≡ node_at old s
  pub longer : length old ≤ length new

pub IsGrown-append : (old more : List Node) → IsGrown old (old ++ more)
IsGrown-append old more = record { kept = λ s h. get_or_append_left old more blank s h; longer = omega (arith, length-append old more) }

module _ (old new : List Node) (g : IsGrown old new) where
  pub kind-grown : (s : ℕ) → s < length old → kind_of new s ≡ kind_of old s
  kind-grown s h = ap (λ n. n.kind) (g.kept s h)

  pub next-grown : (s : ℕ) → s < length old → (links_of new).next s ≡ (links_of old).next s
  next-grown s h = ap (λ n. n.next) (g.kept s h)

  pub prev-grown : (s : ℕ) → s < length old → (links_of new).prev s ≡ (links_of old).prev s
  prev-grown s h = ap (λ n. n.prev) (g.kept s h)

  pub Inner-grown : (xs : List ℕ) → Inner (stops old) xs → Inner (stops new) xs
  Inner-grown [] i = tt
  Inner-grown (x ∷ xs) i = (ap is_end (kind-grown x (inner-below old x i.0)) ∙ i.0, Inner-grown xs i.1)

  Follows-grown : (a b : ℕ) → a < length old → b < length old → Follows (links_of old) a b → Follows (links_of new) a b
  Follows-grown a b ha hb f = record { ahead = next-grown a ha ∙ f.ahead; back = prev-grown b hb ∙ f.back }

  pub Path-grown : (from : ℕ) (xs : List ℕ) (to : ℕ) → from < length old → to < length old → Inner (stops old) xs → Path (links_of old) from xs to → Path (links_of new) from xs to
  Path-grown from [] to hf ht i p = Follows-grown from to hf ht p
  Path-grown from (x ∷ xs) to hf ht i p =
      let hx : x < length old = inner-below old x i.0 in
      (Follows-grown from x hf hx p.0, Path-grown x xs to hx ht i.1 p.1)

  module _ (elements : List ElementOf) (leaves : ℕ) (t : IsTree old elements leaves) where
    pub path-grown : (id : ℕ) → id < length elements → Path (links_of new) (node_of elements id + 1) (inside old (node_of elements id + 1)) (node_of elements id + 1)
    path-grown id h = Path-grown (node_of elements id + 1) (inside old (node_of elements id + 1)) (node_of elements id + 1) (t.end_in id h) (t.end_in id h) (inside-inner old (node_of elements id + 1)) (t.ring id h)

    pub inside-grown : (id : ℕ) → id < length elements → inside new (node_of elements id + 1) ≡ inside old (node_of elements id + 1)
    inside-grown id h = inside-path new (node_of elements id + 1) (inside old (node_of elements id + 1)) (path-grown id h)
        (Inner-grown (inside old (node_of elements id + 1)) (inside-inner old (node_of elements id + 1)))
        (ap is_end (kind-grown (node_of elements id + 1) (t.end_in id h)) ∙ stops-end old elements leaves t id h)

    pub ring-grown : (id : ℕ) → id < length elements → Path (links_of new) (node_of elements id + 1) (inside new (node_of elements id + 1)) (node_of elements id + 1)
    ring-grown id h = subst (λ xs. Path (links_of new) (node_of elements id + 1) xs (node_of elements id + 1)) (sym (inside-grown id h)) (path-grown id h)

-- the new nodes are alone
pub record IsAdded (old new : List Node) : Type 0 where
  pub grown : IsGrown old new
  pub next : (s : ℕ) → length old ≤ s → s < length new → (links_of new).next s ≡ s
  pub prev : (s : ℕ) → length old ≤ s → s < length new → (links_of new).prev s ≡ s

module _ (old new : List Node) (a : IsAdded old new) (closed : IsClosed old) where
  pub closed-added : IsClosed new
  closed-added = record {
    next = λ s h. elim (cases_lt s (length old)) [
      | inl below ↦ subst (λ r. r < length new) (sym (next-grown old new a.grown s below)) (omega (arith, closed.next s below, a.grown.longer))
      | inr past ↦ subst (λ r. r < length new) (sym (a.next s past h)) h
    ];
    prev = λ s h. elim (cases_lt s (length old)) [
      | inl below ↦ subst (λ r. r < length new) (sym (prev-grown old new a.grown s below)) (omega (arith, closed.prev s below, a.grown.longer))
      | inr past ↦ subst (λ r. r < length new) (sym (a.prev s past h)) h
    ];
  }

module _ (old new : List Node) (a : IsAdded old new) (elements : List ElementOf) (leaves : ℕ) (t : IsTree old elements leaves) where
  pub ringed-added : IsRinged new
  ringed-added = record {
    after = λ s h. elim (cases_lt s (length old)) [
      | inl below ↦ ap (links_of new).prev (next-grown old new a.grown s below) ∙ prev-grown old new a.grown ((links_of old).next s) (t.closed.next s below) ∙ t.ringed.after s below
      | inr past ↦ ap (links_of new).prev (a.next s past h) ∙ a.prev s past h
    ];
    before = λ s h. elim (cases_lt s (length old)) [
      | inl below ↦ ap (links_of new).next (prev-grown old new a.grown s below) ∙ next-grown old new a.grown ((links_of old).prev s) (t.closed.prev s below) ∙ t.ringed.before s below
      | inr past ↦ ap (links_of new).next (a.prev s past h) ∙ a.next s past h
    ];
  }

home-more : (elements : List ElementOf) (leaves s : ℕ) (kind : Kind) → IsAtHome elements leaves s kind → IsAtHome elements (leaves + 1) s kind
home-more elements leaves s (End id) h = h
home-more elements leaves s (Element id) h = h
home-more elements leaves s (Leaf number) h = omega arith

-- a node that is in a list was there
listed-grown : (old new : List Node) → IsAdded old new → (elements : List ElementOf) (leaves : ℕ) → IsTree old elements leaves → (s : ℕ) → stops new s ≡ false → (links_of new).next s ≢ s → IsListed old elements s
listed-grown old new added elements leaves t s i h =
    elim (cases_lt s (length old)) [
      | inl below ↦ t.listed s (sym (ap is_end (kind-grown old new added.grown s below)) ∙ i) (λ e. h (next-grown old new added.grown s below ∙ e))
      | inr past ↦ absurd (h (added.next s past (inner-below new s i)))
    ]

module _ (old : List Node) (leaves : ℕ) where
  at_leaf : (s : ℕ) → length old ≤ s → s < length (with_leaf old leaves) → (s ≡ length old) × (node_at (with_leaf old leaves) s ≡ alone s (Leaf leaves))
  at_leaf s past h =
      let same : s ≡ length old = omega (arith, length-append old (alone (length old) (Leaf leaves) ∷ [])) in
      (same, rw same (get_or-append_seam old (alone (length old) (Leaf leaves)) [] blank))

  pub IsAdded-leaf : IsAdded old (with_leaf old leaves)
  IsAdded-leaf = record {
    grown = IsGrown-append old (alone (length old) (Leaf leaves) ∷ []);
    next = λ s past h. ap (λ n. n.next) (at_leaf s past h).1;
    prev = λ s past h. ap (λ n. n.prev) (at_leaf s past h).1;
  }

module _ (old : List Node) (elements : List ElementOf) (leaves : ℕ) (t : IsTree old elements leaves) where
  abbrev added : IsAdded old (with_leaf old leaves)
  added = IsAdded-leaf old leaves

  leaf-in : (s number : ℕ) → kind_of (with_leaf old leaves) s ≡ Leaf number → ((s < length old) × (kind_of old s ≡ Leaf number)) ⊎ ((s ≡ length old) × (number ≡ leaves))
  leaf-in s number k =
      let below : s < length (with_leaf old leaves) = inner-below (with_leaf old leaves) s (ap is_end k) in
      elim (cases_lt s (length old)) [
        | inl h ↦ inl (h, sym (kind-grown old (with_leaf old leaves) added.grown s h) ∙ k)
        | inr past ↦
            let is : Leaf leaves ≡ Leaf number = sym (ap (λ n. n.kind) (at_leaf old leaves s past below).1) ∙ k in
            let same : number ≡ leaves = cc is in inr ((at_leaf old leaves s past below).0, same)
      ]

  old-number : (s number : ℕ) → s < length old → kind_of old s ≡ Leaf number → number < leaves
  old-number s number h k = let home : IsAtHome elements leaves s (kind_of old s) = t.home s h in subst (λ k'. IsAtHome elements leaves s k') k home

  pub IsTree-leaf : IsTree (with_leaf old leaves) elements (leaves + 1)
  IsTree-leaf = record {
    closed = closed-added old (with_leaf old leaves) added t.closed;
    ringed = ringed-added old (with_leaf old leaves) added elements leaves t;
    ring = ring-grown old (with_leaf old leaves) added.grown elements leaves t;
    end_in = λ id h. omega (arith, t.end_in id h, added.grown.longer);
    element = λ id h. kind-grown old (with_leaf old leaves) added.grown (node_of elements id) (omega (arith, t.end_in id h)) ∙ t.element id h;
    end = λ id h. kind-grown old (with_leaf old leaves) added.grown (node_of elements id + 1) (t.end_in id h) ∙ t.end id h;
    home = λ s h. elim (cases_lt s (length old)) [
      | inl below ↦ subst (λ k. IsAtHome elements (leaves + 1) s k) (sym (kind-grown old (with_leaf old leaves) added.grown s below)) (home-more elements leaves s (kind_of old s) (t.home s below))
      | inr past ↦ subst (λ k. IsAtHome elements (leaves + 1) s k) (sym (ap (λ n. n.kind) (at_leaf old leaves s past h).1)) (omega arith)
    ];
    leaf_once = λ s r number a b. elim (leaf-in s number a) [
      | inl sa ↦ elim (leaf-in r number b) [
        | inl rb ↦ t.leaf_once s r number sa.1 rb.1
        | inr rb ↦ absurd (let low : number < leaves = old-number s number sa.0 sa.1 in omega arith)
      ]
      | inr sa ↦ elim (leaf-in r number b) [
        | inl rb ↦ absurd (let low : number < leaves = old-number r number rb.0 rb.1 in omega arith)
        | inr rb ↦ sa.0 ∙ sym rb.0
      ]
    ];
    listed = λ s i h.
        let there : IsListed old elements s = listed-grown old (with_leaf old leaves) added elements leaves t s i h in
        (there.0, (there.1.0, subst (λ xs. list_any (λ y. s == y) xs ≡ true) (sym (inside-grown old (with_leaf old leaves) added.grown elements leaves t there.0 there.1.0)) there.1.1));
    root = λ some. next-grown old (with_leaf old leaves) added.grown (node_of elements 0) (omega (arith, t.end_in 0 some)) ∙ t.root some;
  }

module _ (old : List Node) (elements : List ElementOf) (leaves : ℕ) (t : IsTree old elements leaves) (e : ElementOf) (own : e.node ≡ length old) where
  abbrev pub with_element : List Node
  with_element = old ++ alone (length old) (Element (length elements)) ∷ alone (length old + 1) (End (length elements)) ∷ []

  abbrev pub elements_more : List ElementOf
  elements_more = elements ++ e ∷ []

  length-with_element : length with_element ≡ length old + 2
  length-with_element = length-append old (alone (length old) (Element (length elements)) ∷ alone (length old + 1) (End (length elements)) ∷ []) ∙ omega arith

  at_first : node_at with_element (length old) ≡ alone (length old) (Element (length elements))
  at_first = get_or-append_seam old (alone (length old) (Element (length elements))) (alone (length old + 1) (End (length elements)) ∷ []) blank

  at_second : node_at with_element (length old + 1) ≡ alone (length old + 1) (End (length elements))
  at_second = get_or-append-add old (alone (length old) (Element (length elements)) ∷ alone (length old + 1) (End (length elements)) ∷ []) 1 blank

  new-node : (s : ℕ) → length old ≤ s → s < length with_element → ((s ≡ length old) × (node_at with_element s ≡ alone s (Element (length elements)))) ⊎ ((s ≡ length old + 1) × (node_at with_element s ≡ alone s (End (length elements))))
  new-node s past h =
      elim (cases_eq s (length old)) [
        | inl same ↦ inl (same, rw same at_first)
        | inr other ↦ let next : s ≡ length old + 1 = omega (arith, length-with_element) in inr (next, rw next at_second)
      ]

  pub IsAdded-element : IsAdded old with_element
  IsAdded-element = record {
    grown = IsGrown-append old (alone (length old) (Element (length elements)) ∷ alone (length old + 1) (End (length elements)) ∷ []);
    next = λ s past h. elim (new-node s past h) [ inl f ↦ ap (λ n. n.next) f.1 | inr f ↦ ap (λ n. n.next) f.1 ];
    prev = λ s past h. elim (new-node s past h) [ inl f ↦ ap (λ n. n.prev) f.1 | inr f ↦ ap (λ n. n.prev) f.1 ];
  }

  pub node-kept : (id : ℕ) → id < length elements → node_of elements_more id ≡ node_of elements id
  node-kept id h = ap (λ x. x.node) (get_or_append_left elements (e ∷ []) no_element id h)

  pub node-last : node_of elements_more (length elements) ≡ length old
  node-last = ap (λ x. x.node) (get_or-append_seam elements e [] no_element) ∙ own

  -- what holds of each element that was there and of the new one holds of all
  each-element : (P : ℕ → ℕ → Type 0) → ((id : ℕ) → id < length elements → P id (node_of elements id)) → P (length elements) (length old) → (id : ℕ) → id < length elements_more → P id (node_of elements_more id)
  each-element P olds last id h =
      elim (cases_lt id (length elements)) [
        | inl below ↦ subst (λ n. P id n) (sym (node-kept id below)) (olds id below)
        | inr past ↦
            let same : id ≡ length elements = omega (arith, length-append elements (e ∷ [])) in
            subst (λ i. P i (node_of elements_more i)) (sym same) (subst (λ n. P (length elements) n) (sym node-last) last)
      ]

  home-kept : (s : ℕ) (kind : Kind) → IsAtHome elements leaves s kind → IsAtHome elements_more leaves s kind
  home-kept s (End id) h = omega (arith, h, length-append elements (e ∷ []))
  home-kept s (Element id) h = (omega (arith, h.0, length-append elements (e ∷ [])), node-kept id h.0 ∙ h.1)
  home-kept s (Leaf number) h = h

  pub inside-new : inside with_element (length old + 1) ≡ []
  inside-new = inside-path with_element (length old + 1) [] (record { ahead = ap (λ n. n.next) at_second; back = ap (λ n. n.prev) at_second }) tt (ap (λ n. is_end n.kind) at_second)

  leaf-kept : (s number : ℕ) → kind_of with_element s ≡ Leaf number → kind_of old s ≡ Leaf number
  leaf-kept s number k =
      let below : s < length with_element = inner-below with_element s (ap is_end k) in
      elim (cases_lt s (length old)) [
        | inl h ↦ sym (kind-grown old with_element IsAdded-element.grown s h) ∙ k
        | inr past ↦ elim (new-node s past below) [
          | inl f ↦ absurd (let is : Element (length elements) ≡ Leaf number = sym (ap (λ n. n.kind) f.1) ∙ k in cc is)
          | inr f ↦ absurd (let is : End (length elements) ≡ Leaf number = sym (ap (λ n. n.kind) f.1) ∙ k in cc is)
        ]
      ]

  pub IsTree-element : IsTree with_element elements_more leaves
  IsTree-element = record {
    closed = closed-added old with_element IsAdded-element t.closed;
    ringed = ringed-added old with_element IsAdded-element elements leaves t;
    ring = each-element (λ id n. Path (links_of with_element) (n + 1) (inside with_element (n + 1)) (n + 1)) (ring-grown old with_element IsAdded-element.grown elements leaves t)
        (subst (λ xs. Path (links_of with_element) (length old + 1) xs (length old + 1)) (sym inside-new) (record { ahead = ap (λ n. n.next) at_second; back = ap (λ n. n.prev) at_second }));
    end_in = each-element (λ id n. n + 1 < length with_element) (λ id h. omega (arith, t.end_in id h, length-with_element)) (omega (arith, length-with_element));
    element = each-element (λ id n. kind_of with_element n ≡ Element id) (λ id h. kind-grown old with_element IsAdded-element.grown (node_of elements id) (omega (arith, t.end_in id h)) ∙ t.element id h) (ap (λ n. n.kind) at_first);
    end = each-element (λ id n. kind_of with_element (n + 1) ≡ End id) (λ id h. kind-grown old with_element IsAdded-element.grown (node_of elements id + 1) (t.end_in id h) ∙ t.end id h) (ap (λ n. n.kind) at_second);
    home = λ s h. elim (cases_lt s (length old)) [
      | inl below ↦ subst (λ k. IsAtHome elements_more leaves s k) (sym (kind-grown old with_element IsAdded-element.grown s below)) (home-kept s (kind_of old s) (t.home s below))
      | inr past ↦ elim (new-node s past h) [
        | inl f ↦ subst (λ k. IsAtHome elements_more leaves s k) (sym (ap (λ n. n.kind) f.1)) (omega (arith, length-append elements (e ∷ [])), node-last ∙ sym f.0)
        | inr f ↦ subst (λ k. IsAtHome elements_more leaves s k) (sym (ap (λ n. n.kind) f.1)) (omega (arith, length-append elements (e ∷ [])))
      ]
    ];
    leaf_once = λ s r number a b. t.leaf_once s r number (leaf-kept s number a) (leaf-kept r number b);
    listed = λ s i h.
        let there : IsListed old elements s = listed-grown old with_element IsAdded-element elements leaves t s i h in (
          there.0,
          (
            omega (arith, there.1.0, length-append elements (e ∷ [])),
            subst (λ n. list_any (λ y. s == y) (inside with_element (n + 1)) ≡ true) (sym (node-kept there.0 there.1.0))
                (subst (λ xs. list_any (λ y. s == y) xs ≡ true) (sym (inside-grown old with_element IsAdded-element.grown elements leaves t there.0 there.1.0)) there.1.1),
          ),
        );
    root = λ some. each-element (λ id n. id ≡ 0 → (links_of with_element).next n ≡ n)
        (λ id h zero. subst (λ i. (links_of with_element).next (node_of elements i) ≡ node_of elements i) (sym zero)
        (let first : 0 < length elements = omega arith in next-grown old with_element IsAdded-element.grown (node_of elements 0) (omega (arith, t.end_in 0 first)) ∙ t.root first))
        (λ zero. ap (λ n. n.next) at_first) 0 some refl;
  }

-- a node that was there means what it meant, though there are more leaves
pub kind_item-more : (elements : List ElementOf) (leaves more : List Item) (s : ℕ) (kind : Kind) → IsAtHome elements (length leaves) s kind → kind_item (leaves ++ more) kind ≡ kind_item leaves kind
kind_item-more elements leaves more s (End id) h = refl
kind_item-more elements leaves more s (Element id) h = refl
kind_item-more elements leaves more s (Leaf number) h = get_or_append_left leaves more no_item number h

pub map-grown_items : (old new : List Node) (elements : List ElementOf) (leaves more : List Item) → IsGrown old new → IsTree old elements (length leaves) → (xs : List ℕ) → Inner (stops old) xs → map (item_of new (leaves ++ more)) xs ≡ map (item_of old leaves) xs
map-grown_items old new elements leaves more g t [] i = refl
map-grown_items old new elements leaves more g t (x ∷ xs) i =
    let below : x < length old = inner-below old x i.0 in
    let first : item_of new (leaves ++ more) x ≡ item_of old leaves x = ap (kind_item (leaves ++ more)) (kind-grown old new g x below) ∙ kind_item-more elements leaves more x (kind_of old x) (t.home x below) in
    let rest : map (item_of new (leaves ++ more)) xs ≡ map (item_of old leaves) xs = map-grown_items old new elements leaves more g t xs i.1 in cc
