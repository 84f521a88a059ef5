-- A whole tree with one element more.
use Rattle.std.proofs.Common.{◌≡◌, ◌+◌, ◌-◌, ◌<◌, ◌≤◌, ℕ, [], ◌∷◌, ◌++◌, Some, length, refl, ap, ◌∙◌, arith}
use Rattle.std.proofs.lemmas.List.{get_or_append_left, length-append}
use Rattle.hp_elements.specs.declared.tag.Tag.{Tag}
use Rattle.hp_store.specs.Leaves.{leaf_items}
use Rattle.hp_store.specs.Lists.{attribute_count, element_nodes, no_element, node_of}
use Rattle.hp_store.specs.Store.{Element as ElementOf, Stored}
use Rattle.hp_arena.specs.Arena.{Seen}
use Rattle.hp_arena.specs.Shape.{branches_of, items_in, seen, IsSound, IsTree}
use Rattle.hp_arena.specs.declared.arena.Arena.TheInside.{Inside}
use Rattle.hp_arena.proofs.Glue.{tree_in}
use Rattle.hp_arena.proofs.Growing.{IsTree-element}
use Rattle.hp_arena.proofs.Making.{branches-element}
use Rattle.hp_arena.proofs.Rooms.{each-element}
use Rattle.hp_arena.proofs.Shapes.{make_branch}

module _ (a : Inside) (sound : IsSound a) (tag : Tag) (t : Stored) (nodes : t.nodes ≡ a.store.nodes ++ element_nodes (length a.store.nodes) (length a.store.elements))
    (elements : t.elements ≡ a.store.elements ++ record { tag = Some tag; node = length a.store.nodes } ∷ []) (leaves : t.leaves ≡ a.store.leaves) where
  abbrev own : ElementOf
  own = record { tag = Some tag; node = length a.store.nodes }

  tree : IsTree t.nodes t.elements (length t.leaves)
  tree = rw (nodes, elements, leaves) (IsTree-element a.store.nodes a.store.elements (length a.store.leaves) sound.tree own refl)

  count : length t.nodes ≡ length a.store.nodes + 2
  count = ap length nodes ∙ length-append a.store.nodes (element_nodes (length a.store.nodes) (length a.store.elements))

  ids : length t.elements ≡ length a.store.elements + 1
  ids = ap length elements ∙ length-append a.store.elements (own ∷ [])

  pub sound-element : (room : ℕ) → length tag.attributes < a.spare → room ≡ length tag.attributes + 1
      → a.store.free.nodes ≤ t.free.nodes + 2 → a.store.free.elements ≤ t.free.elements + 1 → t.free.leaves ≡ a.store.free.leaves → IsSound (record a { store = t; spare = a.spare - room; used = a.used + room })
  sound-element size some is nodes_left elements_left leaves_left =
      let room = sound.room in
      record {
        document = omega (arith, ids);
        first = ap (λ es. node_of es 0) elements ∙ ap (λ e. e.node) (get_or_append_left a.store.elements (own ∷ []) no_element 0 sound.document) ∙ sound.first;
        tree = tree;
        room = record {
          nodes = omega (arith, room.nodes);
          elements = omega (arith, room.elements);
          leaves = omega (arith, room.leaves);
          numbers = omega (arith, room.numbers, count);
          ids = omega (arith, room.ids, ids);
          leaf_numbers = rw leaves (omega (arith, room.leaf_numbers));
          runs = rw leaves (λ k. omega (arith, room.runs k));
          attributes = rw elements (each-element (λ e. attribute_count e.tag ≤ a.used + size) a.store.elements own (omega arith) (omega arith) (λ k. omega (arith, room.attributes k)));
          used = omega (arith, room.used);
          cells = omega (arith, room.cells);
          cell = room.cell;
        };
      }

  pub branches-more : (s : Seen) → seen a ≡ s → branches_of t.nodes t.elements (leaf_items t.leaves) ≡ s.branches ++ make_branch (Some tag) [] ∷ []
  branches-more s view =
      rw (nodes, elements, leaves)
      (branches-element a.store.nodes a.store.elements (items_in a) (tree_in a sound) own refl
      ∙ ap (λ r. r.branches ++ make_branch (Some tag) [] ∷ []) view)
