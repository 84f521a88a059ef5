-- What the branches become.
use Rattle.std.proofs.Common.{◌≡◌, ◌≢◌, ℕ, ◌+◌, ◌<◌, List, length, map, sym, ap, ◌∙◌, subst, get_or, inl, inr}
use Rattle.std.proofs.lemmas.Bool.{cases_eq}
use Rattle.std.proofs.lemmas.List.{ext_get_or, get_or-map, length-map, get_or-set_same, get_or-set_other}
use Rattle.std.proofs.Math.ListN.{length-set}
use Rattle.hp_control.specs.Tree.{Item, Tree, in_one, with_inside, no_branch, branch}
use Rattle.hp_arena.specs.Nodes.{inside}
use Rattle.hp_arena.specs.Shape.{item_of, branch_of, branches_of}
use Rattle.hp_store.specs.Lists.{node_of, no_element}
use Rattle.hp_store.specs.declared.node.Node.{Node}
use Rattle.hp_store.specs.Store.{Element as ElementOf}
use Rattle.hp_arena.proofs.Shapes.{make_branch}

-- the items of the list of children of an element
abbrev pub items_of : List Node → List ElementOf → List Item → ℕ → List Item
items_of nodes elements leaves id = map (item_of nodes leaves) (inside nodes (node_of elements id + 1))

pub branch-at : (nodes : List Node) (elements : List ElementOf) (leaves : List Item) (id : ℕ) → id < length elements → branch (branches_of nodes elements leaves) id ≡ make_branch (get_or elements id no_element).tag (items_of nodes elements leaves id)
branch-at nodes elements leaves id h = get_or-map (branch_of nodes leaves) elements id no_element no_branch h

-- the branches stay where each list of children does
pub branches-same : (old new : List Node) (elements : List ElementOf) (before after : List Item)
    → ((id : ℕ) → id < length elements → items_of new elements after id ≡ items_of old elements before id)
    → branches_of new elements after ≡ branches_of old elements before
branches-same old new elements before after same =
    ext_get_or no_branch (branches_of new elements after) (branches_of old elements before)
    (length-map elements (branch_of new after) ∙ sym (length-map elements (branch_of old before)))
    (λ i h.
    let below : i < length elements = subst (λ n. i < n) (length-map elements (branch_of new after)) h in
    branch-at new elements after i below ∙ ap (make_branch (get_or elements i no_element).tag) (same i below) ∙ sym (branch-at old elements before i below))

-- one list of children changes, and the others stay
pub branches-one : (old new : List Node) (elements : List ElementOf) (before after : List Item) (change : List Item → List Item) (id : ℕ) → id < length elements
    → items_of new elements after id ≡ change (items_of old elements before id)
    → ((j : ℕ) → j < length elements → j ≢ id → items_of new elements after j ≡ items_of old elements before j)
    → branches_of new elements after ≡ in_one change (branches_of old elements before) id
branches-one old new elements before after change id hid here there =
    let t : Tree = branches_of old elements before in
    ext_get_or no_branch (branches_of new elements after) (in_one change t id)
    (length-map elements (branch_of new after) ∙ sym (length-set t id (with_inside change (branch t id)) ∙ length-map elements (branch_of old before)))
    (λ i h.
    let below : i < length elements = subst (λ n. i < n) (length-map elements (branch_of new after)) h in
    let within : id < length t = subst (λ n. id < n) (sym (length-map elements (branch_of old before))) hid in
    elim (cases_eq i id) [
      | inl same ↦
          subst (λ k. branch (branches_of new elements after) k ≡ branch (in_one change t id) k) (sym same)
          (branch-at new elements after id hid
          ∙ ap (make_branch (get_or elements id no_element).tag) here
          ∙ sym (get_or-set_same t id (with_inside change (branch t id)) no_branch within ∙ ap (with_inside change) (branch-at old elements before id hid)))
      | inr other ↦
          branch-at new elements after i below ∙ ap (make_branch (get_or elements i no_element).tag) (there i below other)
          ∙ sym (get_or-set_other t id i (with_inside change (branch t id)) no_branch other ∙ branch-at old elements before i below)
    ])
