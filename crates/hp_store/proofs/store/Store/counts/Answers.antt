use Rattle.std.proofs.Common.{ap, ◌∙◌, sym, length, arith}
use Rattle.hp_store.specs.Store.{Stored}
use Rattle.hp_store.proofs.Laying.{count-nodes, count-elements, count-leaves}
use Rattle.hp_store.proofs.store.Store.counts.Goals as goal

pub returns-clause-nodes : goal.returns-clause-nodes
returns-clause-nodes c = ap (λ n. n.nodes) c.end.ensures ∙ sym (count-nodes c.self.inside.parts.items c.self.inside.last c.self.invariant.laid) ∙ ap (λ (s : Stored). length s.nodes) c.self.view_is

pub returns-clause-elements : goal.returns-clause-elements
returns-clause-elements c =
    omega (arith, ap (λ n. n.elements) c.end.ensures, count-elements c.self.inside.parts.items c.self.inside.last c.self.invariant.laid, ap (λ (s : Stored). length s.elements) c.self.view_is)

pub returns-clause-leaves : goal.returns-clause-leaves
returns-clause-leaves c = ap (λ n. n.leaves) c.end.ensures ∙ sym (count-leaves c.self.inside.parts.items c.self.inside.last c.self.invariant.laid) ∙ ap (λ (s : Stored). length s.leaves) c.self.view_is
