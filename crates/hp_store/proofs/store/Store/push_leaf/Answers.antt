use Rattle.std.proofs.Common.{◌+◌, ◌<◌, ◌^◌, ◌++◌, ap, sym, ◌∙◌, subst, length, arith}
use Rattle.hp_store.specs.Lists.{leaf_nodes}
use Rattle.hp_store.specs.Store.{Stored}
use Rattle.hp_store.proofs.Laying.{count-nodes, count-leaves}
use Rattle.hp_store.proofs.Pushing.{IsSound-leaf, nodes-leaf}
use Rattle.hp_store.proofs.store.Store.push_leaf.Goals as goal

pub push_leaf-requires-clause-nodes_fit : goal.push_leaf-requires-clause-nodes_fit
push_leaf-requires-clause-nodes_fit c = omega (arith, c.requires.nodes_fit, ap (λ (s : Stored). length s.nodes) c.self.view_is, count-nodes c.self.inside.parts.items c.self.inside.last c.self.invariant.laid)

pub push_leaf-requires-clause-leaves_fit : goal.push_leaf-requires-clause-leaves_fit
push_leaf-requires-clause-leaves_fit c = omega (arith, c.requires.leaves_fit, ap (λ (s : Stored). length s.leaves) c.self.view_is, count-leaves c.self.inside.parts.items c.self.inside.last c.self.invariant.laid)

pub invariant_of-self : goal.invariant_of-self
invariant_of-self c =
    IsSound-leaf c.self.inside c.self.invariant c.push_leaf.new.self c.push_leaf.ensures.before c.args.leaf c.push_leaf.ensures.nodes c.push_leaf.ensures.leaves c.push_leaf.ensures.elements
    (subst (λ (s : Stored). length s.nodes + 1 < 2 ^ 32) (sym c.self.view_is) c.requires.nodes_fit) (subst (λ (s : Stored). length s.leaves + 1 < 2 ^ 32) (sym c.self.view_is) c.requires.leaves_fit)

pub returns-clause-nodes : goal.returns-clause-nodes
returns-clause-nodes c =
    nodes-leaf c.self.inside c.self.invariant c.push_leaf.new.self c.push_leaf.ensures.before c.args.leaf c.push_leaf.ensures.nodes c.push_leaf.ensures.leaves c.push_leaf.ensures.elements
    (subst (λ (s : Stored). length s.nodes + 1 < 2 ^ 32) (sym c.self.view_is) c.requires.nodes_fit) (subst (λ (s : Stored). length s.leaves + 1 < 2 ^ 32) (sym c.self.view_is) c.requires.leaves_fit)
    ∙ ap (λ (s : Stored). s.nodes ++ leaf_nodes (length s.nodes) (length s.leaves)) c.self.view_is
