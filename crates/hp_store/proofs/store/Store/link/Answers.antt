use Rattle.std.proofs.Common.{◌<◌, ap, sym, ◌∙◌, length, arith, subst, inl, inr, ℕ}
use Rattle.std.proofs.lemmas.Bool.{cases_lt}
use Rattle.hp_store.specs.declared.node.Node.{Node}
use Rattle.hp_store.specs.Lists.{node_linked, with_link}
use Rattle.hp_store.specs.Store.{Stored}
use Rattle.hp_store.proofs.Laying.{count-nodes}
use Rattle.hp_store.proofs.Whole.{IsSound-last_nodes, nodes-last}
use Rattle.hp_store.proofs.store.Store.link.Goals as goal

pub link_finished-requires-clause-at_in : goal.link_finished-requires-clause-at_in
link_finished-requires-clause-at_in c =
    let a = c.self.inside in
    let kept = c.link.ensures.kept in
    elim (cases_lt c.args.at a.last.before.nodes) [
      | inl low ↦ subst (λ (n : ℕ). c.args.at < n) (sym (ap (λ b. b.nodes) kept.before)) low
      | inr past ↦ absurd (c.link.ensures.absent c.if-link.false
          (record { from = omega (arith, past); to = omega (arith, c.requires, ap (λ (s : Stored). length s.nodes) c.self.view_is, count-nodes a.parts.items a.last c.self.invariant.laid) }))
    ]

pub invariant_of-self : goal.invariant_of-self
invariant_of-self c = IsSound-last_nodes c.self.inside c.link.new.self c.self.invariant c.link.ensures.kept

pub returns-then-link : goal.returns-then-link
returns-then-link c =
    let here = c.link.ensures.here c.if-link.true in
    nodes-last c.self.inside c.link.new.self c.args.at (λ (n : Node). node_linked c.args.side n c.args.to) c.self.invariant here.from c.link.ensures.kept (c.link.ensures.nodes c.if-link.true)
    ∙ ap (λ (s : Stored). record s { nodes = with_link c.args.side s.nodes c.args.at c.args.to }) c.self.view_is
