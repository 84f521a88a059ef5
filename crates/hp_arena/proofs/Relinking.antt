-- A whole tree, after elements were taken out of their lists, put at places or moved.
use Rattle.std.proofs.Common.{◌≡◌, ◌≢◌, ◌+◌, ◌<◌, ℕ, List, length, sym, ap, ◌∙◌, subst}
use Rattle.hp_control.specs.Tree.{children_moved, detached, put, Element}
use Rattle.hp_control.specs.declared.edit.Place.{Place}
use Rattle.hp_store.specs.Leaves.{leaf_items}
use Rattle.hp_store.specs.Lists.{node_at, node_of, put_between}
use Rattle.hp_store.specs.Store.{Stored}
use Rattle.hp_store.specs.declared.node.Node.{Node}
use Rattle.hp_arena.specs.Arena.{Seen}
use Rattle.hp_arena.specs.Nodes.{links_of, IsRelinked, SameKinds}
use Rattle.hp_arena.specs.Ring.{inserted, spliced, unlinked}
use Rattle.hp_arena.specs.Shape.{at_of, branches_of, items_in, seen, AreNodesIn, IsPlaceIn, IsSound, IsTree}
use Rattle.hp_arena.specs.declared.arena.Arena.TheInside.{Inside}
use Rattle.hp_arena.proofs.Detaching.{IsTree-detached, branches-detached, node-below}
use Rattle.hp_arena.proofs.Glue.{IsSound-relinked, nodes-in, tree_in, tree_out}
use Rattle.hp_arena.proofs.Items.{leaves-plain}
use Rattle.hp_arena.proofs.Linking.{IsRelinked-between, rest-then}
use Rattle.hp_arena.proofs.Moving.{IsTree-spliced, branches-spliced, branches-no_children}
use Rattle.hp_arena.proofs.Places.{at-in}
use Rattle.hp_arena.proofs.Putting.{IsTree-moved, branches-moved}

-- a store in which only nodes changed
module _ (a : Inside) (s : Stored) (rest : s ≡ record a.store { nodes = s.nodes }) where
  sound-stored : SameKinds a.store.nodes s.nodes → IsSound a → IsTree s.nodes a.store.elements (length (items_in a)) → IsSound (record a { store = s })
  sound-stored same sound tree =
      subst (λ (r : Stored). IsSound (record a { store = r })) (sym rest) (IsSound-relinked a s.nodes sound same (tree_out a s.nodes a.store.elements tree))

  branches-stored : branches_of s.nodes s.elements (leaf_items s.leaves) ≡ branches_of s.nodes a.store.elements (items_in a)
  branches-stored = ap (λ (r : Stored). branches_of s.nodes r.elements (leaf_items r.leaves)) rest

module _ (a : Inside) (sound : IsSound a) (s : Seen) (view : seen a ≡ s) (id : ℕ) (h : id < length a.store.elements) (node : ℕ) (own : node ≡ node_of a.store.elements id) where
  pub node-there : node < length a.store.nodes
  node-there = subst (λ n. n < length a.store.nodes) (sym own) (node-below a.store.nodes a.store.elements (length a.store.leaves) sound.tree id h)

  -- the element's node was taken out of its list
  module _ (t : Stored) (unlinked_nodes : IsRelinked a.store.nodes t.nodes (unlinked (links_of a.store.nodes) node)) (rest : t ≡ record a.store { nodes = t.nodes }) where
    out : IsRelinked a.store.nodes t.nodes (unlinked (links_of a.store.nodes) (node_of a.store.elements id))
    out = subst (λ n. IsRelinked a.store.nodes t.nodes (unlinked (links_of a.store.nodes) n)) own unlinked_nodes

    tree-out : IsTree t.nodes a.store.elements (length (items_in a))
    tree-out = IsTree-detached a.store.nodes t.nodes a.store.elements (items_in a) (tree_in a sound) id h out

    pub sound-detached : IsSound (record a { store = t })
    sound-detached = sound-stored a t rest out.same sound tree-out

    pub branches-apart : branches_of t.nodes t.elements (leaf_items t.leaves) ≡ detached s.branches id
    branches-apart =
        branches-stored a t rest
        ∙ branches-detached a.store.nodes t.nodes a.store.elements (items_in a) (tree_in a sound) id h out (leaves-plain a.store.leaves)
        ∙ ap (λ r. detached r.branches id) view

    module _ (place : Place) (apart : id ≢ 0) (hp : IsPlaceIn (length a.store.elements) place) where
      elements : t.elements ≡ a.store.elements
      elements = ap (λ r. r.elements) rest

      pub place-there : IsPlaceIn (length t.elements) place
      place-there = subst (λ es. IsPlaceIn (length es) place) (sym elements) hp

      pub nodes-there : AreNodesIn t.elements (length t.nodes)
      nodes-there = subst (λ n. AreNodesIn t.elements n) (sym out.same.count) (subst (λ es. AreNodesIn es (length a.store.nodes)) (sym elements) (nodes-in a sound))

      -- and is put before the node that a place leads to
      module _ (at : ℕ) (found : at ≡ at_of t.nodes t.elements place) where
        at_is : at ≡ at_of t.nodes a.store.elements place
        at_is = found ∙ ap (λ es. at_of t.nodes es place) elements

        pub at-there : at < length t.nodes
        at-there = subst (λ n. n < length t.nodes) (sym at_is) (at-in t.nodes a.store.elements (length (items_in a)) tree-out place hp)

        pub alone-there : node < length t.nodes
        alone-there = subst (λ n. node < n) (sym out.same.count) node-there

        pub before-there : (node_at t.nodes at).prev < length t.nodes
        before-there = out.closed.prev at at-there

        module _ (u : Stored) (is : u ≡ record t { nodes = put_between t.nodes at node }) where
          into : IsRelinked t.nodes u.nodes (inserted (links_of t.nodes) (at_of t.nodes a.store.elements place) (node_of a.store.elements id))
          into =
              subst (λ (n : ℕ). IsRelinked t.nodes u.nodes (inserted (links_of t.nodes) (at_of t.nodes a.store.elements place) n)) own
              (subst (λ (n : ℕ). IsRelinked t.nodes u.nodes (inserted (links_of t.nodes) n node)) at_is
              (subst (λ (ns : List Node). IsRelinked t.nodes ns (inserted (links_of t.nodes) at node)) (sym (ap (λ r. r.nodes) is))
              (IsRelinked-between t.nodes at node out.closed at-there alone-there)))

          all : u ≡ record a.store { nodes = u.nodes }
          all = rest-then a.store t u t.nodes (put_between t.nodes at node) rest is

          same : SameKinds a.store.nodes u.nodes
          same = record { count = into.same.count ∙ out.same.count; kind = λ x. into.same.kind x ∙ out.same.kind x }

          pub sound-put : IsSound (record a { store = u })
          sound-put =
              sound-stored a u all same sound
              (IsTree-moved a.store.nodes t.nodes u.nodes a.store.elements (items_in a) (tree_in a sound) id place h apart (leaves-plain a.store.leaves) hp out into)

          pub branches-put : branches_of u.nodes u.elements (leaf_items u.leaves) ≡ put (detached s.branches id) (Element id) place
          branches-put =
              branches-stored a u all
              ∙ branches-moved a.store.nodes t.nodes u.nodes a.store.elements (items_in a) (tree_in a sound) id place h apart (leaves-plain a.store.leaves) hp out into
              ∙ ap (λ r. put (detached r.branches id) (Element id) place) view

-- the children of one element are appended to those of another
module _ (a : Inside) (sound : IsSound a) (s : Seen) (view : seen a ≡ s) (from to : ℕ) (from_in : from < length a.store.elements) (to_in : to < length a.store.elements) (apart : from ≢ to)
    (x y : ℕ) (source : x ≡ node_of a.store.elements from) (target : y ≡ node_of a.store.elements to) where
  pub source-there : x + 1 < length a.store.nodes
  source-there = subst (λ n. n + 1 < length a.store.nodes) (sym source) (sound.tree.end_in from from_in)

  pub target-there : y + 1 < length a.store.nodes
  target-there = subst (λ n. n + 1 < length a.store.nodes) (sym target) (sound.tree.end_in to to_in)

  module _ (n : Node) (read : n ≡ node_at a.store.nodes (x + 1)) where
    next : n.next ≡ (links_of a.store.nodes).next (node_of a.store.elements from + 1)
    next = ap (λ m. m.next) read ∙ ap (λ k. (links_of a.store.nodes).next (k + 1)) source

    pub branches-still : n.next ≡ x + 1 → s.branches ≡ children_moved s.branches from to
    branches-still lone =
        ap (λ r. r.branches) (sym view)
        ∙ branches-no_children a.store.nodes a.store.elements (items_in a) (tree_in a sound) from to from_in to_in apart (sym next ∙ lone ∙ ap (λ k. k + 1) source)
        ∙ ap (λ r. children_moved r.branches from to) view

    module _ (some : n.next ≢ x + 1) (t : Stored) (spliced_nodes : IsRelinked a.store.nodes t.nodes (spliced (links_of a.store.nodes) (x + 1) (y + 1))) (rest : t ≡ record a.store { nodes = t.nodes }) where
      moved : IsRelinked a.store.nodes t.nodes (spliced (links_of a.store.nodes) (node_of a.store.elements from + 1) (node_of a.store.elements to + 1))
      moved =
          subst (λ k. IsRelinked a.store.nodes t.nodes (spliced (links_of a.store.nodes) (node_of a.store.elements from + 1) (k + 1))) target
          (subst (λ k. IsRelinked a.store.nodes t.nodes (spliced (links_of a.store.nodes) (k + 1) (y + 1))) source spliced_nodes)

      more : (links_of a.store.nodes).next (node_of a.store.elements from + 1) ≢ node_of a.store.elements from + 1
      more lone = some (next ∙ lone ∙ ap (λ k. k + 1) (sym source))

      pub sound-spliced : IsSound (record a { store = t })
      sound-spliced =
          sound-stored a t rest moved.same sound
          (IsTree-spliced a.store.nodes t.nodes a.store.elements (items_in a) (tree_in a sound) from to from_in to_in apart more moved)

      pub branches-spliced_there : branches_of t.nodes t.elements (leaf_items t.leaves) ≡ children_moved s.branches from to
      branches-spliced_there =
          branches-stored a t rest
          ∙ branches-spliced a.store.nodes t.nodes a.store.elements (items_in a) (tree_in a sound) from to from_in to_in apart more moved
          ∙ ap (λ r. children_moved r.branches from to) view
