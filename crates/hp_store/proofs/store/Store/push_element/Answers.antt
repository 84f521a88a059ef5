use Rattle.std.proofs.Common.{◌+◌, ◌<◌, ◌^◌, ◌++◌, [], ◌∷◌, Some, ap, sym, ◌∙◌, subst, length, arith}
use Rattle.hp_store.specs.Lists.{element_nodes}
use Rattle.hp_store.specs.Store.{Stored}
use Rattle.hp_store.proofs.Listed.{tagged}
use Rattle.hp_store.proofs.Laying.{count-nodes, count-elements}
use Rattle.hp_store.proofs.Pushing.{IsSound-element, nodes-element, elements-element}
use Rattle.hp_store.proofs.store.Store.push_element.Goals as goal

pub push_element-requires-clause-nodes_fit : goal.push_element-requires-clause-nodes_fit
push_element-requires-clause-nodes_fit c = omega (arith, c.requires.nodes_fit, ap (λ (s : Stored). length s.nodes) c.self.view_is, count-nodes c.self.inside.parts.items c.self.inside.last c.self.invariant.laid)

pub push_element-requires-clause-elements_fit : goal.push_element-requires-clause-elements_fit
push_element-requires-clause-elements_fit c = omega (arith, c.requires.elements_fit, ap (λ (s : Stored). length s.elements) c.self.view_is, count-elements c.self.inside.parts.items c.self.inside.last c.self.invariant.laid)

pub invariant_of-self : goal.invariant_of-self
invariant_of-self c =
    IsSound-element c.self.inside c.self.invariant c.push_element.new.self c.push_element.ensures.before c.args.tag c.push_element.ensures.nodes c.push_element.ensures.elements c.push_element.ensures.leaves
    (subst (λ (s : Stored). length s.nodes + 2 < 2 ^ 32) (sym c.self.view_is) c.requires.nodes_fit) (subst (λ (s : Stored). length s.elements + 1 < 2 ^ 32) (sym c.self.view_is) c.requires.elements_fit)

pub returns-clause-nodes : goal.returns-clause-nodes
returns-clause-nodes c =
    nodes-element c.self.inside c.self.invariant c.push_element.new.self c.push_element.ensures.before c.args.tag c.push_element.ensures.nodes c.push_element.ensures.elements c.push_element.ensures.leaves
    (subst (λ (s : Stored). length s.nodes + 2 < 2 ^ 32) (sym c.self.view_is) c.requires.nodes_fit) (subst (λ (s : Stored). length s.elements + 1 < 2 ^ 32) (sym c.self.view_is) c.requires.elements_fit)
    ∙ ap (λ (s : Stored). s.nodes ++ element_nodes (length s.nodes) (length s.elements)) c.self.view_is

pub returns-clause-elements : goal.returns-clause-elements
returns-clause-elements c =
    elements-element c.self.inside c.self.invariant c.push_element.new.self c.push_element.ensures.before c.args.tag c.push_element.ensures.nodes c.push_element.ensures.elements c.push_element.ensures.leaves
    (subst (λ (s : Stored). length s.nodes + 2 < 2 ^ 32) (sym c.self.view_is) c.requires.nodes_fit) (subst (λ (s : Stored). length s.elements + 1 < 2 ^ 32) (sym c.self.view_is) c.requires.elements_fit)
    ∙ ap (λ (s : Stored). s.elements ++ tagged (Some c.args.tag) (length s.nodes) ∷ []) c.self.view_is
