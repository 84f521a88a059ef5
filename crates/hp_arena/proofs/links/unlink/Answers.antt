use Rattle.std.proofs.Common.{sym, ap, refl, subst, ◌∙◌}
use Rattle.hp_store.specs.declared.node.Node.{Node}
use Rattle.hp_arena.specs.Ring.{joined}
use Rattle.hp_arena.specs.Nodes.{links_of, IsRelinked}
use Rattle.hp_arena.proofs.Linking.{IsRelinked-alone}
use Rattle.hp_arena.proofs.links.unlink.Goals as goal

pub late_node-prev-requires : goal.late_node-prev-requires
late_node-prev-requires c = c.requires.node_in

pub returns-then-next-node-clause-nodes : goal.returns-then-next-node-clause-nodes
returns-then-next-node-clause-nodes c =
    IsRelinked-alone c.args.store.now.nodes c.args.node c.requires.closed c.requires.ringed c.requires.node_in (sym (ap (λ n. n.next) c.late_node-prev.ensures) ∙ c.if-next-node.true)

pub returns-then-next-node-clause-rest : goal.returns-then-next-node-clause-rest
returns-then-next-node-clause-rest c = refl

pub unlink_other-requires-clause-prev_in : goal.unlink_other-requires-clause-prev_in
unlink_other-requires-clause-prev_in c = rw (ap (λ n. n.prev) c.late_node-prev.ensures) (c.requires.closed.prev c.args.node c.requires.node_in)

pub unlink_other-requires-clause-node_in : goal.unlink_other-requires-clause-node_in
unlink_other-requires-clause-node_in c = c.requires.node_in

pub unlink_other-requires-clause-next_in : goal.unlink_other-requires-clause-next_in
unlink_other-requires-clause-next_in c = rw (ap (λ n. n.next) c.late_node-prev.ensures) (c.requires.closed.next c.args.node c.requires.node_in)

pub unlink_other-requires-clause-closed : goal.unlink_other-requires-clause-closed
unlink_other-requires-clause-closed c = c.requires.closed

pub returns-clause-nodes : goal.returns-clause-nodes
returns-clause-nodes c =
    subst (λ (n : Node). IsRelinked c.args.store.now.nodes c.unlink_other.new.store.nodes (joined (joined (links_of c.args.store.now.nodes) n.prev n.next) c.args.node c.args.node)) c.late_node-prev.ensures c.unlink_other.ensures.nodes
