-- A whole tree that has a grove behind it.
use Rattle.std.proofs.Common.{◌≡◌, ◌≢◌, ℕ, ◌+◌, ◌-◌, ◌^◌, ◌<◌, ◌≤◌, List, [], ◌∷◌, ◌++◌, All, None, length, map, drop, get_or, vec_len, arith, refl, sym, ap, ◌∙◌, subst, inl, inr, Option}
use Rattle.std.proofs.lemmas.Bool.{cases_lt, cases_eq}
use Rattle.std.proofs.lemmas.List.{get_or-append-add, get_or_append_left, get_or-append_right, get_or-set_same, get_or-set_other, length-append, length-map, length-drop, length-set, get_or_past}
use Rattle.std.proofs.lemmas.Grind.{get_or_after_one}
use Rattle.std.proofs.lemmas.List as lists
use Rattle.std.proofs.Math.ListN.{get_or-map}
use Rattle.hp_control.specs.Tree.{Item, branch, no_branch}
use Rattle.hp_elements.specs.declared.tag.Tag.{Tag}
use Rattle.hp_groves.specs.Grafts.{graft}
use Rattle.hp_arena.specs.Groves.{behind_document}
use Rattle.hp_arena.proofs.Grafting.{raised_kind, raised_node, raised_element}
use Rattle.hp_store.specs.Grafting.{counts_of, retired, IsAppended}
use Rattle.hp_store.specs.Lists.{leaf_at, no_leaf, node_at, blank, attribute_count, node_of, tag_at, no_element}
use Rattle.hp_store.specs.Leaves.{leaf_items, run_count, IsCell}
use Rattle.hp_arena.specs.Nodes.{inside}
use Rattle.hp_arena.specs.Shape.{IsSound, IsTree, branches_of, items_in, item_of, seen}
use Rattle.hp_store.specs.declared.node.Node.{Node}
use Rattle.hp_store.specs.declared.node.Kind.TheVariants.{End}
use Rattle.hp_arena.specs.declared.arena.Arena.TheInside.{Inside}
use Rattle.hp_store.specs.Store.{Element as ElementOf, HasFree}
use Rattle.hp_store.specs.declared.part.Leaf.{Leaf as LeafOf}
use Rattle.hp_store.specs.declared.node.Counts.{Counts}
use Rattle.hp_arena.proofs.Branches.{branch-at}
use Rattle.hp_arena.proofs.Detaching.{node-below}
use Rattle.hp_arena.proofs.Glue.{tree_in}
use Rattle.hp_arena.proofs.Growing.{IsGrown-append}
use Rattle.hp_arena.proofs.Items.{leaves-plain, length-leaf_items}
use Rattle.hp_arena.proofs.Raised.{IsBehind, AreBehind, IsTree-behind}
use Rattle.hp_arena.proofs.Raises.{nodes-raised, others-raised}
use Rattle.hp_store.specs.Grafting as wrapped
use Rattle.hp_arena.proofs.Grafted.{add-turned, leaf_items-behind, branches-behind}

-- each item behind
module _ (old grove : List Node) (rise : Counts) (document : ℕ) (by : rise.nodes ≡ length old) (h : document < length grove) where
  abbrev left : Node
  left = record { prev = (node_at grove document).prev; next = (node_at grove document).next; kind = End 0 }

  abbrev new : List Node
  new = old ++ map (raised_node rise) (retired grove document)

  at-raised : (s : ℕ) → s < length grove → node_at new (s + rise.nodes) ≡ raised_node rise (node_at (retired grove document) s)
  at-raised s below =
      let all : length (retired grove document) ≡ length grove = length-set grove document left in
      ap (λ n. get_or new n blank) (ap (λ n. s + n) by ∙ add-turned s (length old))
      ∙ get_or-append-add old (map (raised_node rise) (retired grove document)) s blank
      ∙ lists.get_or-map (raised_node rise) (retired grove document) s blank blank (subst (λ n. s < n) (sym all) below)

  at-document : node_at (retired grove document) document ≡ left
  at-document = get_or-set_same grove document left blank h

  at-other : (s : ℕ) → s ≢ document → node_at (retired grove document) s ≡ node_at grove s
  at-other s other = get_or-set_other grove document s left blank other

  next-same : (s : ℕ) → (node_at (retired grove document) s).next ≡ (node_at grove s).next
  next-same s = elim (cases_eq s document) [
    | inl same ↦ subst (λ n. (node_at (retired grove document) n).next ≡ (node_at grove n).next) (sym same) (ap (λ n. n.next) at-document)
    | inr other ↦ ap (λ n. n.next) (at-other s other)
  ]

  prev-same : (s : ℕ) → (node_at (retired grove document) s).prev ≡ (node_at grove s).prev
  prev-same s = elim (cases_eq s document) [
    | inl same ↦ subst (λ n. (node_at (retired grove document) n).prev ≡ (node_at grove n).prev) (sym same) (ap (λ n. n.prev) at-document)
    | inr other ↦ ap (λ n. n.prev) (at-other s other)
  ]

  pub IsBehind-append : IsBehind old grove new rise document
  IsBehind-append = record {
    grown = IsGrown-append old (map (raised_node rise) (retired grove document));
    by = by;
    count = length-append old (map (raised_node rise) (retired grove document)) ∙ ap (λ n. length old + n) (length-map (retired grove document) (raised_node rise) ∙ length-set grove document left);
    next = λ s below. ap (λ n. n.next) (at-raised s below) ∙ ap (λ n. n + rise.nodes) (next-same s);
    prev = λ s below. ap (λ n. n.prev) (at-raised s below) ∙ ap (λ n. n + rise.nodes) (prev-same s);
    kind = λ s below other. ap (λ n. n.kind) (at-raised s below) ∙ ap (λ n. raised_kind rise n.kind) (at-other s other);
    blank = ap (λ n. n.kind) (at-raised document h) ∙ ap (λ n. raised_kind rise n.kind) at-document ∙ ap End (omega arith);
  }

module _ (old grove : List ElementOf) (rise : Counts) (by : rise.elements + 1 ≡ length old) (some : 0 < length grove) where
  abbrev elements : List ElementOf
  elements = old ++ drop 1 (map (raised_element rise.nodes) grove)

  element-raised : (id : ℕ) → 0 < id → id < length grove → get_or elements (id + rise.elements) no_element ≡ raised_element rise.nodes (get_or grove id no_element)
  element-raised id above below =
      get_or-append_right old (drop 1 (map (raised_element rise.nodes) grove)) (length old) (id + rise.elements) no_element refl (omega arith)
      ∙ get_or_after_one (map (raised_element rise.nodes) grove) (id + rise.elements - length old) no_element
      ∙ ap (λ n. get_or (map (raised_element rise.nodes) grove) n no_element) (omega arith)
      ∙ lists.get_or-map (raised_element rise.nodes) grove id no_element no_element below

  pub AreBehind-append : AreBehind old grove elements rise
  AreBehind-append = record {
    some = some;
    by = by;
    count = length-append old (drop 1 (map (raised_element rise.nodes) grove)) ∙ omega (arith, length-drop 1 (map (raised_element rise.nodes) grove), length-map grove (raised_element rise.nodes));
    kept = λ id h. ap (λ x. x.node) (get_or_append_left old (drop 1 (map (raised_element rise.nodes) grove)) no_element id h);
    raised = λ id above below. ap (λ x. x.node) (element-raised id above below);
    tag_kept = λ id h. ap (λ x. x.tag) (get_or_append_left old (drop 1 (map (raised_element rise.nodes) grove)) no_element id h);
    tag_raised = λ id above below. ap (λ x. x.tag) (element-raised id above below);
  }

-- what holds of each leaf of two lists
leaf-each : (P : LeafOf → Type 0) (old more : List LeafOf) → ((k : ℕ) → P (leaf_at old k)) → ((k : ℕ) → P (leaf_at more k)) → (k : ℕ) → P (leaf_at (old ++ more) k)
leaf-each P old more olds mores k =
    elim (cases_lt k (length old)) [
      | inl below ↦ subst P (sym (get_or_append_left old more no_leaf k below)) (olds k)
      | inr past ↦ subst P (sym (get_or-append_right old more (length old) k no_leaf refl past)) (mores (k - length old))
    ]

empty-map : (f : ℕ → Item) (xs : List ℕ) → map f xs ≡ [] → xs ≡ []
empty-map f [] h = refl
empty-map f (x ∷ xs) h = absurd (cc h)

-- nothing stands in the document of a tree that is blank
pub inside-blank : (g : Inside) → IsSound g → branch (seen g).branches 0 ≡ no_branch → inside g.store.nodes (node_of g.store.elements 0 + 1) ≡ []
inside-blank g sound blank =
    empty-map (item_of g.store.nodes (items_in g)) (inside g.store.nodes (node_of g.store.elements 0 + 1))
    (ap (λ b. b.inside) (sym (branch-at g.store.nodes g.store.elements (items_in g) 0 sound.document) ∙ blank))

module _ (a g b : Inside) (sound : IsSound a) (grove : IsSound g) (nothing : inside g.store.nodes (node_of g.store.elements 0 + 1) ≡ []) (is : IsAppended a.store g.store b.store)
    (few_nodes : length a.store.nodes + length g.store.nodes ≤ 2 ^ 29) (few_elements : length a.store.elements + length g.store.elements ≤ 2 ^ 29 + 2) (few_leaves : length a.store.leaves + length g.store.leaves ≤ 2 ^ 29) where
  -- by how much the numbers of the grove rise
  abbrev rise : Counts
  rise = counts_of a.store

  by_elements : rise.elements + 1 ≡ length a.store.elements
  by_elements = omega (arith, sound.document)

  -- the numbers fit
  nodes_are : b.store.nodes ≡ a.store.nodes ++ map (raised_node rise) (retired g.store.nodes (node_of g.store.elements 0))
  nodes_are =
      is.nodes
      ∙ ap (λ n. a.store.nodes ++ map (wrapped.raised_node rise) (retired g.store.nodes n)) (sym grove.first)
      ∙ ap (λ ns. a.store.nodes ++ ns) (nodes-raised g.store.nodes g.store.elements (length g.store.leaves) rise (node_of g.store.elements 0) grove.tree (node-below g.store.nodes g.store.elements (length g.store.leaves) grove.tree 0 grove.document)
      (omega (arith, by_elements)) (omega arith) (omega (arith, by_elements)) (omega arith))

  elements_are : b.store.elements ≡ a.store.elements ++ drop 1 (map (raised_element rise.nodes) g.store.elements)
  elements_are =
      is.elements ∙ ap (λ es. a.store.elements ++ es) (others-raised g.store.elements rise.nodes (λ id h. omega (arith, grove.tree.end_in id h)))

  nodes-behind : IsBehind a.store.nodes g.store.nodes b.store.nodes rise (node_of g.store.elements 0)
  nodes-behind = subst (λ ns. IsBehind a.store.nodes g.store.nodes ns rise (node_of g.store.elements 0)) (sym nodes_are)
      (IsBehind-append a.store.nodes g.store.nodes rise (node_of g.store.elements 0) refl (node-below g.store.nodes g.store.elements (length g.store.leaves) grove.tree 0 grove.document))

  elements-behind : AreBehind a.store.elements g.store.elements b.store.elements rise
  elements-behind = subst (λ es. AreBehind a.store.elements g.store.elements es rise) (sym elements_are)
      (AreBehind-append a.store.elements g.store.elements rise by_elements grove.document)

  pub branches-grafted : (seen b).branches ≡ graft (seen a).branches (behind_document (seen g).branches)
  branches-grafted =
      ap (branches_of b.store.nodes b.store.elements) (ap leaf_items is.leaves ∙ leaf_items-behind a.store.leaves g.store.leaves)
      ∙ branches-behind a.store.nodes g.store.nodes b.store.nodes a.store.elements g.store.elements b.store.elements rise nodes-behind elements-behind
      (items_in a) (items_in g) (tree_in a sound) (tree_in g grove) nothing (sym (length-leaf_items a.store.leaves)) (leaves-plain g.store.leaves)

  leaf_count : length b.store.leaves ≡ length a.store.leaves + length g.store.leaves
  leaf_count = ap length is.leaves ∙ length-append a.store.leaves g.store.leaves

  tree : IsTree b.store.nodes b.store.elements (length b.store.leaves)
  tree =
      subst (IsTree b.store.nodes b.store.elements) (sym leaf_count)
      (IsTree-behind a.store.nodes g.store.nodes b.store.nodes a.store.elements g.store.elements b.store.elements rise nodes-behind elements-behind
      (length a.store.leaves) (length g.store.leaves) sound.tree grove.tree nothing refl)

  runs : b.used ≡ a.used + g.used → (number : ℕ) → run_count (leaf_at b.store.leaves number) ≤ b.used
  runs used =
      subst (λ ls. (number : ℕ) → run_count (leaf_at ls number) ≤ b.used) (sym is.leaves)
      (leaf-each (λ l. run_count l ≤ b.used) a.store.leaves g.store.leaves (λ k. omega (arith, sound.room.runs k)) (λ k. omega (arith, grove.room.runs k)))

  -- what holds of the tag of each element, and of none
  tag-each : (P : Option Tag → Type 0) → P None → ((id : ℕ) → id < length a.store.elements → P (tag_at a.store.elements id)) → ((id : ℕ) → 0 < id → id < length g.store.elements → P (tag_at g.store.elements id)) → (id : ℕ) → P (tag_at b.store.elements id)
  tag-each P none olds mores id =
      elim (cases_lt id (length b.store.elements)) [
        | inl below ↦ elim (cases_lt id (length a.store.elements)) [
          | inl low ↦ subst P (sym (elements-behind.tag_kept id low)) (olds id low)
          | inr past ↦
              let some : 0 < id - rise.elements = omega (arith, by_elements) in
              let low : id - rise.elements < length g.store.elements = omega (arith, by_elements, elements-behind.count) in
              let same : id - rise.elements + rise.elements ≡ id = omega (arith, by_elements) in
              subst (λ i. P (tag_at b.store.elements i)) same (subst P (sym (elements-behind.tag_raised (id - rise.elements) some low)) (mores (id - rise.elements) some low))
        ]
        | inr far ↦ subst (λ x. P x.tag) (sym (get_or_past b.store.elements id no_element far)) none
      ]

  pub IsSound-grafted : b.used ≡ a.used + g.used → b.spare ≤ 2 ^ 29 → b.used ≤ 2 ^ 29
      → HasFree b.store.free b.spare → b.spare ≤ vec_len b.cells → All IsCell b.cells.items → IsSound b
  IsSound-grafted used few_spare few_used free cells cell = record {
    document = omega (arith, elements-behind.count, grove.document, by_elements);
    first = elements-behind.kept 0 sound.document ∙ sound.first;
    tree = tree;
    room = record {
      nodes = free.nodes;
      elements = free.elements;
      leaves = free.leaves;
      numbers = omega (arith, nodes-behind.count);
      ids = omega (arith, elements-behind.count, by_elements);
      leaf_numbers = omega (arith, leaf_count);
      runs = runs used;
      attributes = tag-each (λ t. attribute_count t ≤ b.used) (omega arith) (λ id h. omega (arith, sound.room.attributes id)) (λ id above h. omega (arith, grove.room.attributes id));
      used = omega arith;
      cells = cells;
      cell = cell;
    };
  }
