use Rattle.std.proofs.Common.{◌≡◌, ◌≢◌, ◌<◌, ℕ, length, sym, ap, ◌∙◌, subst, inl, inr, ◌⊎◌, true, false}
use Rattle.hp_control.specs.Tree.{IsForest, has_parent, stands_in}
use Rattle.hp_store.specs.Lists.{node_at, node_of}
use Rattle.hp_store.specs.declared.node.Kind.{Kind}
use Rattle.hp_store.specs.declared.node.Kind.TheVariants.{End, Element, Leaf}
use Rattle.hp_store.specs.declared.node.Node.{Node}
use Rattle.hp_arena.specs.Arena.{Seen}
use Rattle.hp_arena.specs.Nodes.{end_from, links_of}
use Rattle.hp_arena.specs.Shape.{IsSound, items_in, seen}
use Rattle.hp_arena.specs.declared.arena.Arena.TheInside.{Inside}
use Rattle.hp_arena.proofs.Detaching.{node-below}
use Rattle.hp_arena.proofs.Fosters.{ParentOf, has_parent-none, parent-there}
use Rattle.hp_arena.proofs.Glue.{id-below, tree_in}
use Rattle.hp_arena.proofs.Items.{leaves-plain}
use Rattle.hp_arena.proofs.Parents.{IsForest-seen}
use Rattle.hp_arena.proofs.arena.Arena.parent_of.Goals as goal

end-only : (k : Kind) (parent : ℕ) → k ≡ End parent → ((x : ℕ) × (k ≡ Element x)) ⊎ ((x : ℕ) × (k ≡ Leaf x)) → ⊥
end-only k parent e h =
    elim h [
      | inl x ↦ let no : End parent ≡ Element x.0 = sym e ∙ x.1 in cc no
      | inr x ↦ let no : End parent ≡ Leaf x.0 = sym e ∙ x.1 in cc no
    ]

end-same : (k : Kind) (parent other : ℕ) → k ≡ End parent → k ≡ End other → parent ≡ other
end-same k parent other e f = let same : End parent ≡ End other = sym e ∙ f in cc same

-- the node of the element and the one after it, as the code reads them
module _ (a : Inside) (sound : IsSound a) (s : Seen) (view : seen a ≡ s) (id : ℕ) (below : id < length a.store.elements) (node : ℕ) (n : Node)
    (own : node ≡ node_of a.store.elements id) (read : n ≡ node_at a.store.nodes node) where
  node_in : node < length a.store.nodes
  node_in = subst (λ k. k < length a.store.nodes) (sym own) (node-below a.store.nodes a.store.elements (length a.store.leaves) sound.tree id below)

  next : n.next ≡ (links_of a.store.nodes).next (node_of a.store.elements id)
  next = ap (λ x. x.next) read ∙ ap (λ k. (links_of a.store.nodes).next k) own

  none : n.next ≡ node → has_parent s.branches id ≡ false
  none lone =
      ap (λ r. has_parent r.branches id) (sym view)
      ∙ has_parent-none a.store.nodes a.store.elements (items_in a) (leaves-plain a.store.leaves) (tree_in a sound) id below (sym next ∙ lone ∙ own)

  found : n.next ≢ node → ParentOf a.store.nodes a.store.elements (items_in a) id
  found away = parent-there a.store.nodes a.store.elements (items_in a) (leaves-plain a.store.leaves) (tree_in a sound) id below (λ lone. away (next ∙ lone ∙ sym own))

  -- the end that the code comes to from there
  module _ (away : n.next ≢ node) (at : ℕ) (walked : at ≡ end_from a.store.nodes (length a.store.nodes) node) where
    end : at ≡ end_from a.store.nodes (length a.store.nodes) (node_of a.store.elements id)
    end = walked ∙ ap (λ k. end_from a.store.nodes (length a.store.nodes) k) own

    end_in : at < length a.store.nodes
    end_in = subst (λ k. k < length a.store.nodes) (sym end) (found away).end_in

    -- is that of the parent's list
    last : (m : Node) → m ≡ node_at a.store.nodes at → m.kind ≡ End (found away).parent
    last m last_read = ap (λ x. x.kind) last_read ∙ ap (λ k. (node_at a.store.nodes k).kind) end ∙ (found away).end

    never_inner : (m : Node) → m ≡ node_at a.store.nodes at → ((x : ℕ) × (m.kind ≡ Element x)) ⊎ ((x : ℕ) × (m.kind ≡ Leaf x)) → ⊥
    never_inner m last_read h = end-only m.kind (found away).parent (last m last_read) h

    stands : (m : Node) → m ≡ node_at a.store.nodes at → (parent : ℕ) → m.kind ≡ End parent → stands_in s.branches parent id ≡ true
    stands m last_read parent is =
        ap (λ r. stands_in r.branches parent id) (sym view)
        ∙ subst (λ p. stands_in (seen a).branches p id ≡ true) (end-same m.kind (found away).parent parent (last m last_read) is) (found away).stands

pub node_of-node-requires : goal.node_of-node-requires
node_of-node-requires c = id-below c.self.inside c.args.self.now c.args.id c.self.view_is c.requires

pub node-requires : goal.node-requires
node-requires c = rw c.node_of-node.ensures (node-below c.self.inside.store.nodes c.self.inside.store.elements (length c.self.inside.store.leaves) c.self.invariant.tree c.args.id (id-below c.self.inside c.args.self.now c.args.id c.self.view_is c.requires))

pub returns-then-node-clause-parent : goal.returns-then-node-clause-parent
returns-then-node-clause-parent c = none c.self.inside c.self.invariant c.args.self.now c.self.view_is c.args.id (id-below c.self.inside c.args.self.now c.args.id c.self.view_is c.requires) c.node_of-node.result c.node.result c.node_of-node.ensures c.node.ensures c.if-node.true

pub returns-then-node-clause-forest : goal.returns-then-node-clause-forest
returns-then-node-clause-forest c = subst (λ s. IsForest s.branches) c.self.view_is (IsForest-seen c.self.inside c.self.invariant)

pub end_after-end-requires-clause-from_in : goal.end_after-end-requires-clause-from_in
end_after-end-requires-clause-from_in c = node_in c.self.inside c.self.invariant c.args.self.now c.self.view_is c.args.id (id-below c.self.inside c.args.self.now c.args.id c.self.view_is c.requires) c.node_of-node.result c.node.result c.node_of-node.ensures c.node.ensures

pub end_after-end-requires-clause-closed : goal.end_after-end-requires-clause-closed
end_after-end-requires-clause-closed c = c.self.invariant.tree.closed

pub node-requires-2 : goal.node-requires-2
node-requires-2 c = end_in c.self.inside c.self.invariant c.args.self.now c.self.view_is c.args.id (id-below c.self.inside c.args.self.now c.args.id c.self.view_is c.requires) c.node_of-node.result c.node.result c.node_of-node.ensures c.node.ensures c.if-node.false c.end_after-end.result c.end_after-end.ensures

pub unreachable-requires : goal.unreachable-requires
unreachable-requires c = never_inner c.self.inside c.self.invariant c.args.self.now c.self.view_is c.args.id (id-below c.self.inside c.args.self.now c.args.id c.self.view_is c.requires) c.node_of-node.result c.node.result c.node_of-node.ensures c.node.ensures c.if-node.false c.end_after-end.result c.end_after-end.ensures c.node-2.result c.node-2.ensures c.in-Element.is

pub returns-clause-parent : goal.returns-clause-parent
returns-clause-parent c = stands c.self.inside c.self.invariant c.args.self.now c.self.view_is c.args.id (id-below c.self.inside c.args.self.now c.args.id c.self.view_is c.requires) c.node_of-node.result c.node.result c.node_of-node.ensures c.node.ensures c.if-node.false c.end_after-end.result c.end_after-end.ensures c.node-2.result c.node-2.ensures c.in-End.parent c.in-End.is

pub returns-clause-forest : goal.returns-clause-forest
returns-clause-forest c = subst (λ s. IsForest s.branches) c.self.view_is (IsForest-seen c.self.inside c.self.invariant)
