-- What an edit of the links does to the lists of children.
use Rattle.std.proofs.Common.{◌≡◌, ◌≢◌, ℕ, ◌+◌, ◌<◌, List, [], ◌∷◌, length, map, filter, ◌==◌, not, true, false, sym, refl, ap, ◌∙◌, subst, get_or, inl, inr, Option}
use Rattle.std.specs.List.{list_any}
use Rattle.std.proofs.lemmas.Bool.{ne_eqb, true≢false, cases_Bool, cases_eq, eq-eqb}
use Rattle.std.proofs.lemmas.List.{ext_get_or, get_or-map, length-map}
use Rattle.hp_elements.specs.declared.tag.Tag.{Tag}
use Rattle.hp_control.specs.Tree.{Branch, Item, is_element, in_each, with_inside, no_branch}
use Rattle.hp_arena.specs.Ring.{Path}
use Rattle.hp_arena.specs.Nodes.{links_of, kind_of, is_end, stops, inside, IsRinged, IsClosed, SameKinds}
use Rattle.hp_arena.specs.Shape.{IsTree, IsAtHome, item_of, kind_item, branch_of, branches_of, no_item}
use Rattle.hp_store.specs.Lists.{node_of, no_element}
use Rattle.hp_store.specs.declared.node.Node.{Node}
use Rattle.hp_store.specs.declared.node.Kind.{Kind}
use Rattle.hp_store.specs.declared.node.Kind.TheVariants.{End, Element, Leaf}
use Rattle.hp_store.specs.Store.{Element as ElementOf}
use Rattle.hp_arena.proofs.Paths.{without_node}
use Rattle.hp_arena.proofs.Walks.{Inner, inside-path, inner-below}

-- the new nodes have this list of children for each element
pub record Rewired (nodes : List Node) (elements : List ElementOf) (change : ℕ → List ℕ) : Type 0 where
  pub path : (id : ℕ) → id < length elements → Path (links_of nodes) (node_of elements id + 1) (change id) (node_of elements id + 1)
  pub inner : (id : ℕ) → id < length elements → Inner (stops nodes) (change id)

stops-same : (old new : List Node) → SameKinds old new → (s : ℕ) → stops new s ≡ stops old s
stops-same old new same s = ap is_end (same.kind s)

pub Inner-same : (old new : List Node) → SameKinds old new → (xs : List ℕ) → Inner (stops old) xs → Inner (stops new) xs
Inner-same old new same [] i = tt
Inner-same old new same (x ∷ xs) i = (stops-same old new same x ∙ i.0, Inner-same old new same xs i.1)

pub stops-end : (nodes : List Node) (elements : List ElementOf) (leaves : ℕ) → IsTree nodes elements leaves → (id : ℕ) → id < length elements → stops nodes (node_of elements id + 1) ≡ true
stops-end nodes elements leaves t id h = ap is_end (t.end id h)

pub inside-rewired : (old new : List Node) (elements : List ElementOf) (leaves : ℕ) (change : ℕ → List ℕ) → IsTree old elements leaves → SameKinds old new → Rewired new elements change → (id : ℕ) → id < length elements → inside new (node_of elements id + 1) ≡ change id
inside-rewired old new elements leaves change t same r id h =
    inside-path new (node_of elements id + 1) (change id) (r.path id h) (r.inner id h)
    (stops-same old new same (node_of elements id + 1) ∙ stops-end old elements leaves t id h)

-- the node is in the list of an element
abbrev pub IsAmong : List ElementOf → (ℕ → List ℕ) → ℕ → Type 0
IsAmong elements lists s = (id : ℕ) × ((id < length elements) × (list_any (λ y. s == y) (lists id) ≡ true))

-- the links may change as long as each list of children is a ring, and each node that isn't alone is in one
pub IsTree-rewired : (old new : List Node) (elements : List ElementOf) (leaves : ℕ) (change : ℕ → List ℕ) → IsTree old elements leaves → SameKinds old new → IsClosed new → IsRinged new → Rewired new elements change
    → ((s : ℕ) → stops old s ≡ false → (links_of new).next s ≢ s → IsAmong elements change s)
    → (0 < length elements → (links_of new).next (node_of elements 0) ≡ node_of elements 0)
    → IsTree new elements leaves
IsTree-rewired old new elements leaves change t same closed ringed r listed root = record {
  closed = closed;
  ringed = ringed;
  ring = λ id h. subst (λ xs. Path (links_of new) (node_of elements id + 1) xs (node_of elements id + 1)) (sym (inside-rewired old new elements leaves change t same r id h)) (r.path id h);
  end_in = λ id h. subst (λ n. node_of elements id + 1 < n) (sym same.count) (t.end_in id h);
  element = λ id h. same.kind (node_of elements id) ∙ t.element id h;
  end = λ id h. same.kind (node_of elements id + 1) ∙ t.end id h;
  home = λ s h. subst (λ k. IsAtHome elements leaves s k) (sym (same.kind s)) (t.home s (subst (λ n. s < n) same.count h));
  leaf_once = λ s r number a b. t.leaf_once s r number (sym (same.kind s) ∙ a) (sym (same.kind r) ∙ b);
  listed = λ s i h.
      let there : IsAmong elements change s = listed s (sym (stops-same old new same s) ∙ i) h in
      (there.0, (there.1.0, subst (λ xs. list_any (λ y. s == y) xs ≡ true) (sym (inside-rewired old new elements leaves change t same r there.0 there.1.0)) there.1.1));
  root = root;
}

abbrev pub make_branch : Option Tag → List Item → Branch
make_branch tag items = record { tag = tag; inside = items }

-- a change of each list of children is one of each branch
pub branches-each : (old new : List Node) (elements : List ElementOf) (before after : List Item) (change : List Item → List Item)
    → ((id : ℕ) → id < length elements → map (item_of new after) (inside new (node_of elements id + 1)) ≡ change (map (item_of old before) (inside old (node_of elements id + 1))))
    → branches_of new elements after ≡ in_each change (branches_of old elements before)
branches-each old new elements before after change same =
    ext_get_or no_branch (branches_of new elements after) (in_each change (branches_of old elements before))
    (length-map elements (branch_of new after) ∙ sym (length-map (branches_of old elements before) (with_inside change) ∙ length-map elements (branch_of old before)))
    (λ i h.
    let below : i < length elements = subst (λ n. i < n) (length-map elements (branch_of new after)) h in
    let below' : i < length (branches_of old elements before) = subst (λ n. i < n) (sym (length-map elements (branch_of old before))) below in
    get_or-map (branch_of new after) elements i no_element no_branch below
    ∙ ap (make_branch (get_or elements i no_element).tag) (same i below)
    ∙ sym (get_or-map (with_inside change) (branches_of old elements before) i no_branch no_branch below'
    ∙ ap (with_inside change) (get_or-map (branch_of old before) elements i no_element no_branch below)))

-- no leaf is an element
abbrev pub AreLeaves : List Item → Type 0
AreLeaves leaves = (number id : ℕ) → is_element id (get_or leaves number no_item) ≡ false

kind-test : (nodes : List Node) (elements : List ElementOf) (leaves : List Item) → AreLeaves leaves → (id s : ℕ) → kind_of nodes (node_of elements id) ≡ Element id → (k : Kind) → IsAtHome elements (length leaves) s k → is_end k ≡ false → kind_of nodes s ≡ k → is_element id (kind_item leaves k) ≡ (s == node_of elements id)
kind-test nodes elements leaves plain id s own (End j) home e is = absurd (true≢false e)
kind-test nodes elements leaves plain id s own (Element j) home e is =
    elim (cases_eq j id) [
      | inl same ↦ eq-eqb j id same ∙ sym (eq-eqb s (node_of elements id) (sym home.1 ∙ ap (node_of elements) same))
      | inr other ↦
          ne_eqb j id other ∙ sym (ne_eqb s (node_of elements id) (λ same.
          let k : Element j ≡ Element id = sym is ∙ ap (kind_of nodes) same ∙ own in
          let one : j ≡ id = cc k in other one))
    ]
kind-test nodes elements leaves plain id s own (Leaf number) home e is =
    plain number id ∙ sym (ne_eqb s (node_of elements id) (λ same.
    let k : Leaf number ≡ Element id = sym is ∙ ap (kind_of nodes) same ∙ own in cc k))

-- which node is the element's
pub is_element-item : (nodes : List Node) (elements : List ElementOf) (leaves : List Item) → AreLeaves leaves → IsTree nodes elements (length leaves) → (id : ℕ) → id < length elements → (s : ℕ) → stops nodes s ≡ false → is_element id (item_of nodes leaves s) ≡ (s == node_of elements id)
is_element-item nodes elements leaves plain t id h s inner =
    kind-test nodes elements leaves plain id s (t.element id h) (kind_of nodes s) (t.home s (inner-below nodes s inner)) inner refl

pub map-without_node : (nodes : List Node) (elements : List ElementOf) (leaves : List Item) → AreLeaves leaves → IsTree nodes elements (length leaves) → (id : ℕ) → id < length elements → (xs : List ℕ) → Inner (stops nodes) xs → map (item_of nodes leaves) (without_node (node_of elements id) xs) ≡ filter (λ item. not (is_element id item)) (map (item_of nodes leaves) xs)
map-without_node nodes elements leaves plain t id h [] i = refl
map-without_node nodes elements leaves plain t id h (x ∷ xs) i =
    let rest : map (item_of nodes leaves) (without_node (node_of elements id) xs) ≡ filter (λ item. not (is_element id item)) (map (item_of nodes leaves) xs) = map-without_node nodes elements leaves plain t id h xs i.1 in
    let test : is_element id (item_of nodes leaves x) ≡ (x == node_of elements id) = is_element-item nodes elements leaves plain t id h x i.0 in
    elim (cases_Bool (x == node_of elements id)) [
      | inl e ↦ rw (e, test ∙ e) rest
      | inr e ↦ rw (e, test ∙ e) (ap (λ ys. item_of nodes leaves x ∷ ys) rest)
    ]
