-- Each child is there, and has one parent and one place; the document is no child.
use Rattle.std.proofs.Common.{◌≡◌, ◌≢◌, ℕ, zero, suc, ◌+◌, ◌<◌, ◌≤◌, Some, None, slice_get, map, List, [], ◌∷◌, true, false, ◌==◌, length, sym, ap, ◌∙◌, subst, refl, inl, inr}
use Rattle.std.specs.List.{list_any}
use Rattle.std.proofs.lemmas.Bool.{true≢false, cases_lt, eq-eqb}
use Rattle.hp_arena.specs.Nodes.{kind_of, inside}
use Rattle.hp_store.specs.Lists.{node_of}
use Rattle.std.proofs.lemmas.List.{get_or_past}
use Rattle.hp_control.specs.Tree.{Tree, Item, Element, branch, no_branch, is_element, HasChild, IsForest}
use Rattle.hp_arena.specs.Shape.{IsSound, item_of, kind_item, items_in, seen}
use Rattle.hp_store.specs.declared.node.Kind.{Kind}
use Rattle.hp_store.specs.declared.node.Kind.TheVariants.{End, Leaf}
use Rattle.hp_store.specs.declared.node.Kind.TheVariants as kind
use Rattle.hp_arena.specs.declared.arena.Arena.TheInside.{Inside}
use Rattle.hp_arena.proofs.Branches.{branch-at}
use Rattle.hp_arena.proofs.Glue.{length-branches}
use Rattle.hp_arena.proofs.Items.{leaves-plain}
use Rattle.hp_arena.proofs.Reading.{Stands, stands-at, not_end, element-there, element-node, listed-there}
use Rattle.hp_arena.proofs.Forests.{one_list}

no_item-at : (t : Tree) (id k child : ℕ) → length t ≤ id → HasChild t id k child → ⊥
no_item-at t id k child past h =
    let none : (branch t id).inside ≡ [] = ap (λ b. b.inside) (get_or_past t id no_branch past) in
    let no : None ≡ Some (Element child) = sym (ap (λ xs. slice_get xs k) none) ∙ h in cc no

get-unmap : (f : ℕ → Item) (xs : List ℕ) (k : ℕ) (x : Item) → slice_get (map f xs) k ≡ Some x → (s : ℕ) × ((slice_get xs k ≡ Some s) × (f s ≡ x))
get-unmap f [] k x h = let no : None ≡ Some x = h in absurd (cc no)
get-unmap f (y ∷ ys) zero x h = let same : f y ≡ x = cc h in (y, (refl, same))
get-unmap f (y ∷ ys) (suc k) x h = get-unmap f ys k x h

-- the node of a child, in the list of its parent
record ChildNode (a : Inside) (parent child : ℕ) : Type 0 where
  child_in : child < length a.store.elements
  some : 0 < child
  parent_in : parent < length a.store.elements
  listed : list_any (λ y. node_of a.store.elements child == y) (inside a.store.nodes (node_of a.store.elements parent + 1)) ≡ true

leaf-child : (a : Inside) (number child : ℕ) → kind_item (items_in a) (Leaf number) ≢ Element child
leaf-child a number child h =
    let no : false ≡ true = sym (leaves-plain a.store.leaves number child) ∙ ap (is_element child) h ∙ eq-eqb child child refl in true≢false (sym no)

module _ (a : Inside) (sound : IsSound a) where
  child-of : (parent place s child : ℕ) → Stands a parent place s → (k : Kind) → kind_of a.store.nodes s ≡ k → kind_item (items_in a) k ≡ Element child → ChildNode a parent child
  child-of parent place s child st (End id) is e = absurd (not_end a sound parent place s st id is)
  child-of parent place s child st (Leaf number) is e = absurd (leaf-child a number child e)
  child-of parent place s child st (kind.Element id) is e =
      let same : id ≡ child = cc e in
      let own : (id < length a.store.elements) × (0 < id) = element-there a sound parent place s st id is in
      let node : node_of a.store.elements id ≡ s = element-node a sound parent place s st id is in
      record {
        child_in = subst (λ i. i < length a.store.elements) same own.0;
        some = subst (λ i. 0 < i) same own.1;
        parent_in = st.parent_in;
        listed = subst (λ n. list_any (λ y. n == y) (inside a.store.nodes (node_of a.store.elements parent + 1)) ≡ true) (sym node ∙ ap (node_of a.store.elements) same) (listed-there a sound parent place s st);
      }

  child-node : (parent place child : ℕ) → HasChild (seen a).branches parent place child → ChildNode a parent child
  child-node parent place child h =
      elim (cases_lt parent (length (seen a).branches)) [
        | inr past ↦ absurd (no_item-at (seen a).branches parent place child past h)
        | inl below ↦
            let parent_in : parent < length a.store.elements = subst (λ n. parent < n) (length-branches a) below in
            let own : slice_get (map (item_of a.store.nodes (items_in a)) (inside a.store.nodes (node_of a.store.elements parent + 1))) place ≡ Some (Element child) =
            ap (λ b. slice_get b.inside place) (sym (branch-at a.store.nodes a.store.elements (items_in a) parent parent_in)) ∙ h in
            let node = get-unmap (item_of a.store.nodes (items_in a)) (inside a.store.nodes (node_of a.store.elements parent + 1)) place (Element child) own in
            child-of parent place node.0 child (stands-at a sound parent place node.0 parent_in node.1.0) (kind_of a.store.nodes node.0) refl node.1.1
      ]

  pub IsForest-seen : IsForest (seen a).branches
  IsForest-seen = record {
    document = subst (λ n. 0 < n) (sym (length-branches a)) sound.document;
    there = λ parent place child h. subst (λ n. child < n) (sym (length-branches a)) (child-node parent place child h).child_in;
    below = λ parent place child h. (child-node parent place child h).some;
    one_parent = λ p q i j child h k.
        let first : ChildNode a p child = child-node p i child h in
        let second : ChildNode a q child = child-node q j child k in
        one_list a.store.nodes a.store.elements (length a.store.leaves) sound.tree p q (node_of a.store.elements child) first.parent_in second.parent_in first.listed second.listed;
  }
