-- What the readers find in the lists of children.
use Rattle.std.proofs.Common.{◌≡◌, ◌≢◌, ℕ, zero, suc, ◌+◌, ◌<◌, ◌≤◌, ◌^◌, List, [], ◌∷◌, Bool, true, false, ◌==◌, length, map, refl, sym, ap, ◌∙◌, subst, arith, inl, inr, Some, None, slice_get, slice_index_or}
use Rattle.std.specs.List.{list_any}
use Rattle.std.proofs.lemmas.Bool.{true≢false, cases_lt, cases_eq, eq-eqb}
use Rattle.std.proofs.lemmas.List.{get_or-map, get_or_past, length-map}
use Rattle.hp_control.specs.Tree.{Item, branch, is_element}
use Rattle.hp_control.specs.Tree as item
use Rattle.hp_arena.specs.Arena.{Placed, Seen}
use Rattle.hp_arena.specs.Ring.{Links, Path}
use Rattle.hp_arena.specs.Nodes.{links_of, kind_of, stops, inside, is_end}
use Rattle.hp_store.specs.Lists.{node_at, leaf_at, tag_at, node_of, no_element}
use Rattle.hp_arena.specs.Readers.{IsSpot, IsSpotOf, element_of, items_in_list}
use Rattle.hp_store.specs.Leaves.{leaf_item}
use Rattle.hp_store.specs.declared.part.Leaf.{Leaf as LeafOf}
use Rattle.hp_store.specs.declared.node.Kind.{Kind}
use Rattle.hp_store.specs.declared.node.Kind.TheVariants.{End, Element, Leaf}
use Rattle.hp_arena.specs.Shape.{IsAtHome, IsSound, item_of, kind_item, order_of, placed, items_in, seen}
use Rattle.hp_store.specs.declared.node.Node.{Node}
use Rattle.hp_arena.specs.declared.readers.Spot.{Spot}
use Rattle.hp_store.specs.Store.{Element as ElementOf}
use Rattle.hp_arena.specs.declared.arena.Arena.TheInside.{Inside}
use Rattle.hp_arena.proofs.Branches.{branch-at}
use Rattle.hp_arena.proofs.Detaching.{end-not_node}
use Rattle.std.specs.Prelude.{Option, MatchOption}
use Rattle.hp_arena.proofs.Items.{item-at, leaves-plain}
use Rattle.hp_arena.proofs.Paths.{or-right, Avoids, alone-not_on_path}
use Rattle.hp_arena.proofs.Shapes.{stops-end}
use Rattle.hp_arena.proofs.Walks.{Inner, inside-inner, inner-below, Path-length}

pub order-at : (nodes : List Node) (elements : List ElementOf) (id : ℕ) → id < length elements → slice_index_or (order_of nodes elements) id [] ≡ map (placed nodes) (inside nodes (node_of elements id + 1))
order-at nodes elements id h = get_or-map (λ e. map (placed nodes) (inside nodes (e.node + 1))) elements id no_element [] h

none-at : (T : Type 0) (xs : List T) (k : ℕ) (x : T) → xs ≡ [] → slice_get xs k ≢ Some x
none-at T xs k x e h = let no : None ≡ Some x = sym (ap (λ ys. slice_get ys k) e) ∙ h in cc no

-- what is at a place in some list is in the list of an element that is there
pub parent-below : (nodes : List Node) (elements : List ElementOf) (id place : ℕ) (p : Placed) → slice_get (slice_index_or (order_of nodes elements) id []) place ≡ Some p → id < length elements
parent-below nodes elements id place p h =
    elim (cases_lt id (length elements)) [
      | inl below ↦ below
      | inr past ↦ absurd (none-at Placed (slice_index_or (order_of nodes elements) id []) place p (get_or_past (order_of nodes elements) id [] (subst (λ n. n ≤ id) (sym (length-map elements (λ e. map (placed nodes) (inside nodes (e.node + 1))))) past)) h)
    ]

in-later : (s x : ℕ) (xs : List ℕ) → list_any (λ y. s == y) xs ≡ true → list_any (λ y. s == y) (x ∷ xs) ≡ true
in-later s x xs h = or-right (s == x) (list_any (λ y. s == y) xs) h

get-some : (xs : List ℕ) (k s : ℕ) → slice_get xs k ≡ Some s → (k < length xs) × (list_any (λ y. s == y) xs ≡ true)
get-some [] k s h = let no : None ≡ Some s = h in absurd (cc no)
get-some (x ∷ xs) zero s h = let same : x ≡ s = cc h in (omega arith, rw (eq-eqb s x (sym same)) refl)
get-some (x ∷ xs) (suc k) s h =
    let rest : (k < length xs) × (list_any (λ y. s == y) xs ≡ true) = get-some xs k s h in
    (omega (arith, rest.0), in-later s x xs rest.1)

get-map : {T : Type 0} (f : ℕ → T) (xs : List ℕ) (k s : ℕ) → slice_get xs k ≡ Some s → slice_get (map f xs) k ≡ Some (f s)
get-map f [] k s h = let no : None ≡ Some s = h in absurd (cc no)
get-map f (x ∷ xs) zero s h = let same : x ≡ s = cc h in ap (λ y. Some (f y)) same
get-map f (x ∷ xs) (suc k) s h = get-map f xs k s h

-- what a reader keeps of a node is so of that node
get-placed : (nodes : List Node) (xs : List ℕ) (k : ℕ) (p : Placed) → slice_get (map (placed nodes) xs) k ≡ Some p → (slice_get xs k ≡ Some p.node) × (placed nodes p.node ≡ p)
get-placed nodes [] k p h = let no : None ≡ Some p = h in absurd (cc no)
get-placed nodes (x ∷ xs) zero p h =
    let same : placed nodes x ≡ p = cc h in
    (ap (λ q. Some q.node) same, ap (λ q. placed nodes q.node) (sym same) ∙ same)
get-placed nodes (x ∷ xs) (suc k) p h = get-placed nodes xs k p h

Inner-at : (stop : ℕ → Bool) (xs : List ℕ) (k s : ℕ) → Inner stop xs → slice_get xs k ≡ Some s → stop s ≡ false
Inner-at stop [] k s i h = let no : None ≡ Some s = h in absurd (cc no)
Inner-at stop (x ∷ xs) zero s i h = let same : x ≡ s = cc h in ap stop (sym same) ∙ i.0
Inner-at stop (x ∷ xs) (suc k) s i h = Inner-at stop xs k s i.1 h

-- after an item comes the next one, or the end
path-last : (l : Links) (stop : ℕ → Bool) (from : ℕ) (xs : List ℕ) (to k s : ℕ) → Path l from xs to → Inner stop xs → slice_get xs k ≡ Some s → stop (l.next s) ≡ true → length xs ≡ k + 1
path-last l stop from [] to k s p i h e = let no : None ≡ Some s = h in absurd (cc no)
path-last l stop from (x ∷ []) to zero s p i h e = refl
path-last l stop from (x ∷ y ∷ rest) to zero s p i h e = let same : x ≡ s = cc h in absurd (true≢false (sym e ∙ ap (λ z. stop (l.next z)) (sym same) ∙ ap stop p.1.0.ahead ∙ i.1.0))
path-last l stop from (x ∷ xs) to (suc k) s p i h e = let rest : length xs ≡ k + 1 = path-last l stop x xs to k s p.1 i.1 h e in omega (arith, rest)

path-next : (l : Links) (stop : ℕ → Bool) (from : ℕ) (xs : List ℕ) (to k s : ℕ) → Path l from xs to → stop to ≡ true → slice_get xs k ≡ Some s → stop (l.next s) ≡ false → slice_get xs (k + 1) ≡ Some (l.next s)
path-next l stop from [] to k s p t h e = let no : None ≡ Some s = h in absurd (cc no)
path-next l stop from (x ∷ []) to zero s p t h e = let same : x ≡ s = cc h in absurd (true≢false (sym t ∙ ap stop (sym p.1.ahead) ∙ ap (λ z. stop (l.next z)) same ∙ e))
path-next l stop from (x ∷ y ∷ rest) to zero s p t h e = let same : x ≡ s = cc h in ap Some (sym p.1.0.ahead ∙ ap l.next same)
path-next l stop from (x ∷ []) to (suc k) s p t h e = let no : None ≡ Some s = h in absurd (cc no)
path-next l stop from (x ∷ y ∷ rest) to (suc k) s p t h e =
    let later : slice_get (y ∷ rest) (k + 1) ≡ Some (l.next s) = path-next l stop x (y ∷ rest) to k s p.1 t h e in
    let n : suc k + 1 ≡ suc (k + 1) = omega arith in rw n later

path-first : (l : Links) (stop : ℕ → Bool) (from : ℕ) (xs : List ℕ) (to : ℕ) → Path l from xs to → to ≢ l.next from → slice_get xs 0 ≡ Some (l.next from)
path-first l stop from [] to p e = absurd (e (sym p.ahead))
path-first l stop from (x ∷ xs) to p e = ap Some (sym p.0.ahead)

path-none : (l : Links) (stop : ℕ → Bool) (from : ℕ) (xs : List ℕ) (to : ℕ) → Path l from xs to → Inner stop xs → stop (l.next from) ≡ true → xs ≡ []
path-none l stop from [] to p i e = refl
path-none l stop from (x ∷ xs) to p i e = absurd (true≢false (sym e ∙ ap stop p.0.ahead ∙ i.0))

-- a reader stands on a node of a list of children
pub record Stands (a : Inside) (parent place node : ℕ) : Type 0 where
  pub parent_in : parent < length a.store.elements
  pub at : slice_get (inside a.store.nodes (node_of a.store.elements parent + 1)) place ≡ Some node
  pub inner : stops a.store.nodes node ≡ false
  pub node_in : node < length a.store.nodes
  pub place_in : place < length (inside a.store.nodes (node_of a.store.elements parent + 1))
  pub fits : place + 1 < 2 ^ 32

module _ (a : Inside) (sound : IsSound a) where
  abbrev lists : ℕ → List ℕ
  lists id = inside a.store.nodes (node_of a.store.elements id + 1)

  pub length-list : (id : ℕ) → id < length a.store.elements → length (lists id) ≤ length a.store.nodes
  length-list id h = Path-length a.store.nodes (node_of a.store.elements id + 1) (lists id) (node_of a.store.elements id + 1) (sound.tree.ring id h) (inside-inner a.store.nodes (node_of a.store.elements id + 1)) (stops-end a.store.nodes a.store.elements (length a.store.leaves) sound.tree id h)

  pub stands-at : (parent place node : ℕ) → parent < length a.store.elements → slice_get (lists parent) place ≡ Some node → Stands a parent place node
  stands-at parent place node below here =
      let inner : stops a.store.nodes node ≡ false = Inner-at (stops a.store.nodes) (lists parent) place node (inside-inner a.store.nodes (node_of a.store.elements parent + 1)) here in
      let place_in : place < length (lists parent) = (get-some (lists parent) place node here).0 in
      record {
        parent_in = below;
        at = here;
        inner = inner;
        node_in = inner-below a.store.nodes node inner;
        place_in = place_in;
        fits = omega (arith, place_in, length-list parent below, sound.room.numbers);
      }

  -- the spot that a contract sees
  found : (s : Seen) → seen a ≡ s → (at : Spot) → IsSpot s at
      → (at.parent < length a.store.elements) × ((slice_get (lists at.parent) at.place ≡ Some at.node) × (placed a.store.nodes at.node ≡ record { node = at.node; next = at.next; kind = at.kind }))
  found s view at h =
      let p : Placed = record { node = at.node; next = at.next; kind = at.kind } in
      let own : slice_get (slice_index_or (order_of a.store.nodes a.store.elements) at.parent []) at.place ≡ Some p = subst (λ r. IsSpot r at) (sym view) h in
      let below : at.parent < length a.store.elements = parent-below a.store.nodes a.store.elements at.parent at.place p own in
      (below, get-placed a.store.nodes (lists at.parent) at.place p (ap (λ xs. slice_get xs at.place) (sym (order-at a.store.nodes a.store.elements at.parent below)) ∙ own))

  pub stands : (s : Seen) → seen a ≡ s → (at : Spot) → IsSpot s at → Stands a at.parent at.place at.node
  stands s view at h = let f = found s view at h in stands-at at.parent at.place at.node f.0 f.1.0

  pub next-kept : (s : Seen) → seen a ≡ s → (at : Spot) → IsSpot s at → at.next ≡ (links_of a.store.nodes).next at.node
  next-kept s view at h = sym (ap (λ p. p.next) (found s view at h).1.1)

  pub kind-kept : (s : Seen) → seen a ≡ s → (at : Spot) → IsSpot s at → kind_of a.store.nodes at.node ≡ at.kind
  kind-kept s view at h = ap (λ p. p.kind) (found s view at h).1.1

  -- what stands there, in the model
  pub item-there : (s : Seen) → seen a ≡ s → (parent place node : ℕ) → Stands a parent place node → slice_get (branch s.branches parent).inside place ≡ Some (item_of a.store.nodes (items_in a) node)
  item-there s view parent place node st =
      ap (λ r. slice_get (branch r.branches parent).inside place) (sym view)
      ∙ ap (λ b. slice_get b.inside place) (branch-at a.store.nodes a.store.elements (items_in a) parent st.parent_in)
      ∙ get-map (item_of a.store.nodes (items_in a)) (lists parent) place node st.at

  pub length-there : (s : Seen) → seen a ≡ s → (id : ℕ) → id < length a.store.elements → length (branch s.branches id).inside ≡ length (lists id)
  length-there s view id h =
      ap (λ r. length (branch r.branches id).inside) (sym view)
      ∙ ap (λ b. length b.inside) (branch-at a.store.nodes a.store.elements (items_in a) id h)
      ∙ length-map (lists id) (item_of a.store.nodes (items_in a))

  pub spot-there : (s : Seen) → seen a ≡ s → (parent place node : ℕ) (spot : Spot) → parent < length a.store.elements → slice_get (lists parent) place ≡ Some node → IsSpotOf a.store.nodes parent place node spot → IsSpot s spot
  spot-there s view parent place node spot h here is =
      subst (λ r. IsSpot r spot) view
      (ap (λ p. slice_get (slice_index_or (order_of a.store.nodes a.store.elements) p []) spot.place) is.parent_is
      ∙ ap (λ k. slice_get (slice_index_or (order_of a.store.nodes a.store.elements) parent []) k) is.place_is
      ∙ ap (λ xs. slice_get xs place) (order-at a.store.nodes a.store.elements parent h)
      ∙ get-map (placed a.store.nodes) (lists parent) place node here
      ∙ ap Some (sym is.placed_is))

  pub last-there : (parent place node : ℕ) → Stands a parent place node → stops a.store.nodes ((links_of a.store.nodes).next node) ≡ true → length (lists parent) ≡ place + 1
  last-there parent place node st e = path-last (links_of a.store.nodes) (stops a.store.nodes) (node_of a.store.elements parent + 1) (lists parent) (node_of a.store.elements parent + 1) place node (sound.tree.ring parent st.parent_in) (inside-inner a.store.nodes (node_of a.store.elements parent + 1)) st.at e

  pub next-there : (parent place node : ℕ) → Stands a parent place node → stops a.store.nodes ((links_of a.store.nodes).next node) ≡ false → slice_get (lists parent) (place + 1) ≡ Some ((links_of a.store.nodes).next node)
  next-there parent place node st e = path-next (links_of a.store.nodes) (stops a.store.nodes) (node_of a.store.elements parent + 1) (lists parent) (node_of a.store.elements parent + 1) place node (sound.tree.ring parent st.parent_in) (stops-end a.store.nodes a.store.elements (length a.store.leaves) sound.tree parent st.parent_in) st.at e

  -- the node after the end of a list comes first in it, or nothing does
  pub none-inside : (s : Seen) → seen a ≡ s → (id : ℕ) → id < length a.store.elements → stops a.store.nodes ((links_of a.store.nodes).next (node_of a.store.elements id + 1)) ≡ true → (branch s.branches id).inside ≡ []
  none-inside s view id h e =
      let empty : lists id ≡ [] = path-none (links_of a.store.nodes) (stops a.store.nodes) (node_of a.store.elements id + 1) (lists id) (node_of a.store.elements id + 1) (sound.tree.ring id h) (inside-inner a.store.nodes (node_of a.store.elements id + 1)) e in
      ap (λ r. (branch r.branches id).inside) (sym view)
      ∙ ap (λ b. b.inside) (branch-at a.store.nodes a.store.elements (items_in a) id h)
      ∙ ap (map (item_of a.store.nodes (items_in a))) empty

  pub first-inside : (s : Seen) → seen a ≡ s → (id : ℕ) → id < length a.store.elements → (spot : Spot) → IsSpotOf a.store.nodes id 0 ((links_of a.store.nodes).next (node_of a.store.elements id + 1)) spot → IsSpot s spot
  first-inside s view id h spot is =
      let end : ℕ = node_of a.store.elements id + 1 in
      let apart : end ≢ (links_of a.store.nodes).next end = λ same. true≢false (sym (stops-end a.store.nodes a.store.elements (length a.store.leaves) sound.tree id h) ∙ ap (stops a.store.nodes) same ∙ is.inner) in
      spot-there s view id 0 ((links_of a.store.nodes).next end) spot h (path-first (links_of a.store.nodes) (stops a.store.nodes) end (lists id) end (sound.tree.ring id h) apart) is

Avoids-at : (n : ℕ) (xs : List ℕ) (k s : ℕ) → Avoids n xs → slice_get xs k ≡ Some s → s ≢ n
Avoids-at n [] k s v h = let no : None ≡ Some s = h in absurd (cc no)
Avoids-at n (x ∷ xs) zero s v h = let same : x ≡ s = cc h in λ e. v.0 (same ∙ e)
Avoids-at n (x ∷ xs) (suc k) s v h = Avoids-at n xs k s v.1 h

module _ (a : Inside) (sound : IsSound a) (parent place node : ℕ) (st : Stands a parent place node) where
  -- the document is in no list
  pub not_root : node ≢ node_of a.store.elements 0
  not_root =
      let end : ℕ = node_of a.store.elements parent + 1 in
      let apart : end ≢ node_of a.store.elements 0 = end-not_node a.store.nodes a.store.elements (length a.store.leaves) sound.tree parent 0 st.parent_in sound.document in
      Avoids-at (node_of a.store.elements 0) (inside a.store.nodes end) place node
      (alone-not_on_path (links_of a.store.nodes) end (inside a.store.nodes end) end (node_of a.store.elements 0) (sound.tree.ring parent st.parent_in) (sound.tree.root sound.document) apart).1 st.at

  home : (k : Kind) → kind_of a.store.nodes node ≡ k → IsAtHome a.store.elements (length a.store.leaves) node k
  home k is = subst (λ j. IsAtHome a.store.elements (length a.store.leaves) node j) is (sound.tree.home node st.node_in)

  pub not_end : (id : ℕ) → kind_of a.store.nodes node ≢ End id
  not_end id is = true≢false (sym (ap is_end is) ∙ st.inner)

  pub element-there : (id : ℕ) → kind_of a.store.nodes node ≡ Element id → (id < length a.store.elements) × (0 < id)
  element-there id is =
      let own : (id < length a.store.elements) × (node_of a.store.elements id ≡ node) = home (Element id) is in (
        own.0,
        elim (cases_eq id 0) [
          | inl first ↦ absurd (not_root (sym own.1 ∙ ap (node_of a.store.elements) first))
          | inr other ↦ omega (arith, other)
        ],
      )

  pub element-node : (id : ℕ) → kind_of a.store.nodes node ≡ Element id → node_of a.store.elements id ≡ node
  element-node id is = let own : (id < length a.store.elements) × (node_of a.store.elements id ≡ node) = home (Element id) is in own.1

  pub listed-there : list_any (λ y. node == y) (inside a.store.nodes (node_of a.store.elements parent + 1)) ≡ true
  listed-there = (get-some (inside a.store.nodes (node_of a.store.elements parent + 1)) place node st.at).1

  pub leaf-there : (number : ℕ) → kind_of a.store.nodes node ≡ Leaf number → number < length a.store.leaves
  leaf-there number is = home (Leaf number) is

  -- the item of a leaf as the code reads it
  pub leaf_item-there : (s : Seen) → seen a ≡ s → (number : ℕ) (leaf : LeafOf) → kind_of a.store.nodes node ≡ Leaf number → leaf_at a.store.leaves number ≡ leaf → slice_get (branch s.branches parent).inside place ≡ Some (leaf_item leaf)
  leaf_item-there s view number leaf is own =
      item-there a sound s view parent place node st
      ∙ ap (λ k. Some (kind_item (items_in a) k)) is
      ∙ ap Some (item-at a.store.leaves number ∙ ap (leaf_item) own)

  pub element_item-there : (s : Seen) → seen a ≡ s → (id : ℕ) → kind_of a.store.nodes node ≡ Element id → slice_get (branch s.branches parent).inside place ≡ Some (item.Element id)
  element_item-there s view id is = item-there a sound s view parent place node st ∙ ap (λ k. Some (kind_item (items_in a) k)) is

-- the tag of an element, in the model
pub tag-there : (a : Inside) (s : Seen) → seen a ≡ s → (id : ℕ) → id < length a.store.elements → (branch s.branches id).tag ≡ tag_at a.store.elements id
tag-there a s view id h = ap (λ r. (branch r.branches id).tag) (sym view) ∙ ap (λ b. b.tag) (branch-at a.store.nodes a.store.elements (items_in a) id h)

-- what is no element leads below to none
no-element_of : (x : Item) → ((id : ℕ) → is_element id x ≡ false) → element_of (Some x) ≡ None
no-element_of (item.Element id) h = absurd (true≢false (sym (eq-eqb id id refl) ∙ h id))
no-element_of (item.Text text) h = refl
no-element_of (item.Comment text) h = refl
no-element_of (item.Doctype name public system) h = refl

-- both cases of a choice
pub MatchOption-map : {T : Type 0} (o : Option T) (P P' : Type 0) (Q Q' : T → Type 0) → (P → P') → ((x : T) → Q x → Q' x) → MatchOption o P Q → MatchOption o P' Q'
MatchOption-map None P P' Q Q' f g h = f h
MatchOption-map (Some x) P P' Q Q' f g h = g x h

module _ (a : Inside) (sound : IsSound a) (s : Seen) (view : seen a ≡ s) (at : Spot) (is : IsSpot s at) where
  abbrev below : Option ℕ
  below = element_of (slice_get (branch s.branches at.parent).inside at.place)

  st : Stands a at.parent at.place at.node
  st = stands a sound s view at is

  kind_is : (k : Kind) → at.kind ≡ k → kind_of a.store.nodes at.node ≡ k
  kind_is k e = kind-kept a sound s view at is ∙ e

  -- no element stands there
  none-by : (k : Kind) → at.kind ≡ k → ((id : ℕ) → k ≢ Element id) → items_in_list s.branches below ≡ []
  none-by (End id) e other = absurd (not_end a sound at.parent at.place at.node st id (kind_is (End id) e))
  none-by (Element id) e other = absurd (other id refl)
  none-by (Leaf number) e other =
      ap (λ x. items_in_list s.branches (element_of x)) (item-there a sound s view at.parent at.place at.node st ∙ ap (λ k. Some (kind_item (items_in a) k)) (kind_is (Leaf number) e))
      ∙ ap (items_in_list s.branches) (no-element_of (kind_item (items_in a) (Leaf number)) (λ id. leaves-plain a.store.leaves number id))

  pub none-below : ((id : ℕ) → at.kind ≢ Element id) → items_in_list s.branches below ≡ []
  none-below other = none-by at.kind refl other

  -- the element of this id does
  module _ (id : ℕ) (e : at.kind ≡ Element id) where
    below_is : below ≡ Some id
    below_is = ap element_of (element_item-there a sound at.parent at.place at.node st s view id (kind_is (Element id) e))

    pub id-there : (id < length a.store.elements) × (0 < id)
    id-there = element-there a sound at.parent at.place at.node st id (kind_is (Element id) e)

    end_is : at.node + 1 ≡ node_of a.store.elements id + 1
    end_is = ap (λ n. n + 1) (sym (element-node a sound at.parent at.place at.node st id (kind_is (Element id) e)))

    pub end-there : at.node + 1 < length a.store.nodes
    end-there = subst (λ n. n < length a.store.nodes) (sym end_is) (sound.tree.end_in id id-there.0)

    pub first-below : (n : Node) → n ≡ node_at a.store.nodes (at.node + 1) → (o : Option Spot) → MatchOption o (stops a.store.nodes n.next ≡ true) (IsSpotOf a.store.nodes id 0 n.next)
        → MatchOption o (items_in_list s.branches below ≡ []) (λ first. (parent : ℕ) × ((below ≡ Some parent) × ((first.parent ≡ parent) × ((first.place ≡ 0) × IsSpot s first))))
    first-below n read o h =
        let next : n.next ≡ (links_of a.store.nodes).next (node_of a.store.elements id + 1) = ap (λ m. m.next) read ∙ ap (λ k. (links_of a.store.nodes).next k) end_is in
        MatchOption-map o _ _ _ _
        (λ stop. ap (items_in_list s.branches) below_is ∙ none-inside a sound s view id id-there.0 (ap (stops a.store.nodes) (sym next) ∙ stop))
        (λ first own. (id, (below_is, (own.parent_is, (own.place_is, first-inside a sound s view id id-there.0 first (subst (λ k. IsSpotOf a.store.nodes id 0 k first) next own))))))
        h
