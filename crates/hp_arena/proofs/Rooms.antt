-- The room after an edit.
use Rattle.std.proofs.Common.{◌≡◌, ℕ, ◌+◌, ◌-◌, ◌^◌, ◌<◌, ◌≤◌, List, [], ◌∷◌, ◌++◌, length, All, arith, ap, subst, sym, ◌∙◌, vec_len, slice_index_or, inl, inr}
use Rattle.std.proofs.lemmas.Bool.{cases_lt, cases_eq}
use Rattle.std.proofs.lemmas.List.{get_or_append_left, get_or_past, length-append}
use Rattle.std.proofs.Math.Seq.{get_or-append_seam}
use Rattle.hp_store.specs.Leaves.{IsCell, run_count, IsTextAdded}
use Rattle.hp_store.specs.Lists.{attribute_count, leaf_at, no_leaf, node_of, tag_at, no_element}
use Rattle.hp_store.specs.Store.{Element as ElementOf, HasFree, KeepsFree}
use Rattle.hp_store.specs.declared.part.Leaf.{Leaf as LeafOf}
use Rattle.hp_arena.specs.Shape.{IsSound, IsTree, HasRoom}
use Rattle.hp_arena.specs.declared.arena.Arena.TheInside.{Inside}

-- what holds of each leaf and of one more
pub each-leaf : (P : LeafOf → Type 0) (leaves : List LeafOf) (leaf : LeafOf) → P no_leaf → P leaf → ((k : ℕ) → P (leaf_at leaves k)) → (k : ℕ) → P (leaf_at (leaves ++ leaf ∷ []) k)
each-leaf P leaves leaf none last all k =
    elim (cases_lt k (length leaves)) [
      | inl below ↦ rw (get_or_append_left leaves (leaf ∷ []) no_leaf k below) (all k)
      | inr past ↦ elim (cases_eq k (length leaves)) [
        | inl same ↦ rw (same, get_or-append_seam leaves leaf [] no_leaf) last
        | inr other ↦
            let far : length (leaves ++ leaf ∷ []) ≤ k = omega (arith, length-append leaves (leaf ∷ [])) in
            rw (get_or_past (leaves ++ leaf ∷ []) k no_leaf far) none
      ]
    ]

-- and of each element
pub each-element : (P : ElementOf → Type 0) (elements : List ElementOf) (e : ElementOf) → P no_element → P e → ((k : ℕ) → P (slice_index_or elements k no_element)) → (k : ℕ) → P (slice_index_or (elements ++ e ∷ []) k no_element)
each-element P elements e none last all k =
    elim (cases_lt k (length elements)) [
      | inl below ↦ rw (get_or_append_left elements (e ∷ []) no_element k below) (all k)
      | inr past ↦ elim (cases_eq k (length elements)) [
        | inl same ↦ rw (same, get_or-append_seam elements e [] no_element) last
        | inr other ↦
            let far : length (elements ++ e ∷ []) ≤ k = omega (arith, length-append elements (e ∷ [])) in
            rw (get_or_past (elements ++ e ∷ []) k no_element far) none
      ]
    ]

-- one more leaf and its node, for one place of the room
pub IsSound-leaf : (a b : Inside) (leaf : LeafOf) → IsSound a → 0 < a.spare → b.store.elements ≡ a.store.elements → b.spare ≡ a.spare - 1 → a.used ≤ b.used → b.used ≤ a.used + 1 → run_count leaf ≤ b.used
    → length b.store.nodes ≡ length a.store.nodes + 1 → b.store.leaves ≡ a.store.leaves ++ leaf ∷ []
    → a.store.free.nodes ≤ b.store.free.nodes + 1 → a.store.free.elements ≤ b.store.free.elements → a.store.free.leaves ≤ b.store.free.leaves + 1
    → b.spare ≤ vec_len b.cells → All IsCell b.cells.items
    → IsTree b.store.nodes b.store.elements (length b.store.leaves) → IsSound b
IsSound-leaf a b leaf sound some elements spare used used' enough count leaves nodes_left elements_left leaves_left cells cell tree =
    let room = sound.room in
    let ids : length b.store.elements ≡ length a.store.elements = ap length elements in
    let more : length b.store.leaves ≡ length a.store.leaves + 1 = ap length leaves ∙ length-append a.store.leaves (leaf ∷ []) in
    record {
      document = omega (arith, sound.document);
      first = ap (λ es. node_of es 0) elements ∙ sound.first;
      tree = tree;
      room = record {
        nodes = omega (arith, room.nodes);
        elements = omega (arith, room.elements);
        leaves = omega (arith, room.leaves);
        numbers = omega (arith, room.numbers);
        ids = omega (arith, room.ids);
        leaf_numbers = omega (arith, room.leaf_numbers);
        runs = rw leaves (each-leaf (λ l. run_count l ≤ b.used) a.store.leaves leaf (omega arith) enough (λ k. omega (arith, room.runs k)));
        attributes = λ k. subst (λ es. attribute_count (tag_at es k) ≤ b.used) (sym elements) (omega (arith, room.attributes k));
        used = omega (arith, room.used);
        cells = cells;
        cell = cell;
      };
    }

-- one text more within a leaf, for one place of the room
pub IsSound-text : (a b : Inside) (number : ℕ) (text : List ℕ) → IsSound a → 0 < a.spare → b.store ≡ record a.store { leaves = b.store.leaves } → IsTextAdded a.store.leaves b.store.leaves number text
    → b.spare ≡ a.spare - 1 → b.used ≡ a.used + 1 → b.spare ≤ vec_len b.cells → All IsCell b.cells.items → IsSound b
IsSound-text a b number text sound some rest more spare used enough cell =
    let room = sound.room in
    let nodes : b.store.nodes ≡ a.store.nodes = ap (λ s. s.nodes) rest in
    let elements : b.store.elements ≡ a.store.elements = ap (λ s. s.elements) rest in
    let free : b.store.free ≡ a.store.free = ap (λ s. s.free) rest in
    let count : length b.store.leaves ≡ length a.store.leaves = more.count in
    record {
      document = subst (λ es. 0 < length es) (sym elements) sound.document;
      first = ap (λ es. node_of es 0) elements ∙ sound.first;
      tree = rw (nodes, elements, count) sound.tree;
      room = record {
        nodes = rw free (omega (arith, room.nodes));
        elements = rw free (omega (arith, room.elements));
        leaves = rw free (omega (arith, room.leaves));
        numbers = rw nodes (omega (arith, room.numbers));
        ids = rw elements (omega (arith, room.ids));
        leaf_numbers = omega (arith, room.leaf_numbers);
        runs = λ k. omega (arith, room.runs k, more.runs k);
        attributes = λ k. rw elements (omega (arith, room.attributes k));
        used = omega (arith, room.used);
        cells = enough;
        cell = cell;
      };
    }

-- the same tree, with memory that may be more
module _ (a b : Inside) (sound : IsSound a) (rest : b.store ≡ record a.store { free = b.store.free }) (used : b.used ≡ a.used) (cell : All IsCell b.cells.items) where
  nodes : b.store.nodes ≡ a.store.nodes
  nodes = ap (λ s. s.nodes) rest

  elements : b.store.elements ≡ a.store.elements
  elements = ap (λ s. s.elements) rest

  leaves : b.store.leaves ≡ a.store.leaves
  leaves = ap (λ s. s.leaves) rest

  runs : (number : ℕ) → run_count (leaf_at b.store.leaves number) ≤ b.used
  runs = rw (leaves, used) sound.room.runs

  attributes : (id : ℕ) → attribute_count (tag_at b.store.elements id) ≤ b.used
  attributes = rw (elements, used) sound.room.attributes

  IsSound-same : HasRoom b → IsSound b
  IsSound-same room = record {
    document = rw elements sound.document;
    first = rw elements sound.first;
    tree = rw (nodes, elements, leaves) sound.tree;
    room = room;
  }

  -- with the room that was there
  pub IsSound-wider : KeepsFree a.store.free b.store.free → b.spare ≡ a.spare → vec_len a.cells ≤ vec_len b.cells → IsSound b
  IsSound-wider kept spare more =
      let room = sound.room in
      IsSound-same
      (record {
        nodes = omega (arith, room.nodes, kept.nodes);
        elements = omega (arith, room.elements, kept.elements);
        leaves = omega (arith, room.leaves, kept.leaves);
        numbers = rw nodes (omega (arith, room.numbers));
        ids = rw elements (omega (arith, room.ids));
        leaf_numbers = rw leaves (omega (arith, room.leaf_numbers));
        runs = runs;
        attributes = attributes;
        used = omega (arith, room.used);
        cells = omega (arith, room.cells);
        cell = cell;
      })

  -- with none
  pub IsSound-bare : b.spare ≡ 0 → IsSound b
  IsSound-bare none =
      let room = sound.room in
      IsSound-same
      (record {
        nodes = omega arith;
        elements = omega arith;
        leaves = omega arith;
        numbers = rw nodes (omega (arith, room.numbers));
        ids = rw elements (omega (arith, room.ids));
        leaf_numbers = rw leaves (omega (arith, room.leaf_numbers));
        runs = runs;
        attributes = attributes;
        used = omega (arith, room.used);
        cells = omega arith;
        cell = cell;
      })

  -- and with more room
  pub IsSound-widened : HasFree b.store.free b.spare → b.spare ≤ vec_len b.cells → b.spare ≤ 2 ^ 29
      → length a.store.nodes ≤ 2 ^ 29 → length a.store.elements ≤ 2 ^ 29 + 1 → length a.store.leaves ≤ 2 ^ 29 → a.used ≤ 2 ^ 29 → IsSound b
  IsSound-widened free cells_room few few_nodes few_elements few_leaves few_used =
      IsSound-same
      (record {
        nodes = free.nodes;
        elements = free.elements;
        leaves = free.leaves;
        numbers = rw nodes (omega arith);
        ids = rw elements (omega arith);
        leaf_numbers = rw leaves (omega arith);
        runs = runs;
        attributes = attributes;
        used = omega arith;
        cells = cells_room;
        cell = cell;
      })
