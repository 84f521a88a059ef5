use Rattle.std.proofs.Common.{◌≡◌, ◌++◌, ◌+◌, ◌<◌, ℕ, List, length, sym, ap, ◌∙◌, subst, arith}
use Rattle.std.proofs.lemmas.List.{length-append, get_or_append_left}
use Rattle.hp_store.specs.Lists.{blank, leaf_nodes, node_at, put_between}
use Rattle.hp_store.specs.declared.node.Node.{Node}
use Rattle.hp_arena.specs.Nodes.{links_of, IsClosed, IsRelinked}
use Rattle.hp_arena.specs.Ring.{inserted}
use Rattle.hp_arena.specs.Shape.{IsLeafAdded}
use Rattle.hp_arena.proofs.Growing.{closed-added, IsAdded-leaf}
use Rattle.hp_arena.proofs.Linking.{IsRelinked-between}
use Rattle.hp_arena.proofs.leaves.add_leaf_between.Goals as goal

module _ (old more : List Node) (number at node : ℕ) (is : more ≡ old ++ leaf_nodes (length old) number) (closed : IsClosed old) (at_in : at < length old) (own : node ≡ length old) where
  count : length more ≡ length old + 1
  count = ap length is ∙ length-append old (leaf_nodes (length old) number)

  at_there : at < length more
  at_there = omega (arith, count)

  node_there : node < length more
  node_there = omega (arith, count)

  closed_more : IsClosed more
  closed_more = rw is (closed-added _ _ (IsAdded-leaf old number) closed)

  before_there : (node_at more at).prev < length more
  before_there = closed_more.prev at at_there

  before_same : (before : ℕ) → (node_at old at).prev ≡ before → (node_at more at).prev ≡ before
  before_same before h = rw is (ap (λ (n : Node). n.prev) (get_or_append_left old (leaf_nodes (length old) number) blank at at_in) ∙ h)

  added : (new : List Node) → new ≡ put_between more at node → IsLeafAdded old new number at
  added new put =
      subst (λ (ns : List Node). IsRelinked ns new (inserted (links_of ns) at (length old))) is
      (subst (λ (n : ℕ). IsRelinked more new (inserted (links_of more) at n)) own
      (subst (λ (ns : List Node). IsRelinked more ns (inserted (links_of more) at node)) (sym put) (IsRelinked-between more at node closed_more at_there node_there)))

pub put_between-requires-clause-at_in : goal.put_between-requires-clause-at_in
put_between-requires-clause-at_in c = at_there c.args.store.now.nodes c.push_leaf.new.self.nodes _ c.args.at c.counts-node.result.nodes c.push_leaf.ensures.nodes c.requires.closed c.requires.at_in c.counts-node.ensures.nodes

pub put_between-requires-clause-node_in : goal.put_between-requires-clause-node_in
put_between-requires-clause-node_in c = node_there c.args.store.now.nodes c.push_leaf.new.self.nodes _ c.args.at c.counts-node.result.nodes c.push_leaf.ensures.nodes c.requires.closed c.requires.at_in c.counts-node.ensures.nodes

pub put_between-requires-clause-before : goal.put_between-requires-clause-before
put_between-requires-clause-before c = before_same c.args.store.now.nodes c.push_leaf.new.self.nodes _ c.args.at c.counts-node.result.nodes c.push_leaf.ensures.nodes c.requires.closed c.requires.at_in c.counts-node.ensures.nodes c.args.before c.requires.before

pub put_between-requires-clause-before_in : goal.put_between-requires-clause-before_in
put_between-requires-clause-before_in c =
    let before = before_same c.args.store.now.nodes c.push_leaf.new.self.nodes _ c.args.at c.counts-node.result.nodes c.push_leaf.ensures.nodes c.requires.closed c.requires.at_in c.counts-node.ensures.nodes c.args.before c.requires.before in
    subst (λ (k : ℕ). k < length c.push_leaf.new.self.nodes) before
    (before_there c.args.store.now.nodes c.push_leaf.new.self.nodes _ c.args.at c.counts-node.result.nodes c.push_leaf.ensures.nodes c.requires.closed c.requires.at_in c.counts-node.ensures.nodes)

pub returns-clause-nodes : goal.returns-clause-nodes
returns-clause-nodes c =
    added c.args.store.now.nodes c.push_leaf.new.self.nodes _ c.args.at c.counts-node.result.nodes c.push_leaf.ensures.nodes c.requires.closed c.requires.at_in c.counts-node.ensures.nodes
    c.put_between.new.self.nodes (ap (λ s. s.nodes) c.put_between.ensures)
