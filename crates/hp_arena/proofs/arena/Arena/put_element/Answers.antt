use Rattle.std.proofs.Common.{◌<◌, length, arith, ap, sym, subst}
use Rattle.hp_store.specs.declared.node.Node.{Node}
use Rattle.hp_arena.proofs.Glue.{id-below, place-in}
use Rattle.hp_arena.proofs.Relinking.{node-there, place-there, nodes-there, at-there, alone-there, before-there, sound-put, branches-put}
use Rattle.hp_arena.proofs.arena.Arena.put_element.Goals as goal

pub late_node_of-node-requires-clause-some : goal.late_node_of-node-requires-clause-some
late_node_of-node-requires-clause-some c = omega (arith, c.requires.apart)

pub late_node_of-node-requires-clause-id_in : goal.late_node_of-node-requires-clause-id_in
late_node_of-node-requires-clause-id_in c = id-below c.self.inside c.args.self.now c.args.id c.self.view_is c.requires.id_in

pub unlink-requires-clause-node_in : goal.unlink-requires-clause-node_in
unlink-requires-clause-node_in c = node-there c.self.inside c.self.invariant c.args.self.now c.self.view_is c.args.id (id-below c.self.inside c.args.self.now c.args.id c.self.view_is c.requires.id_in) c.late_node_of-node.result c.late_node_of-node.ensures

pub unlink-requires-clause-closed : goal.unlink-requires-clause-closed
unlink-requires-clause-closed c = c.self.invariant.tree.closed

pub unlink-requires-clause-ringed : goal.unlink-requires-clause-ringed
unlink-requires-clause-ringed c = c.self.invariant.tree.ringed

pub node_at-at-requires-clause-there : goal.node_at-at-requires-clause-there
node_at-at-requires-clause-there c = place-there c.self.inside c.self.invariant c.args.self.now c.self.view_is c.args.id (id-below c.self.inside c.args.self.now c.args.id c.self.view_is c.requires.id_in) c.late_node_of-node.result c.late_node_of-node.ensures c.unlink.new.store c.unlink.ensures.nodes c.unlink.ensures.rest c.args.place c.requires.apart (place-in c.self.inside c.args.self.now c.args.place c.self.view_is c.requires.there)

pub node_at-at-requires-clause-closed : goal.node_at-at-requires-clause-closed
node_at-at-requires-clause-closed c = nodes-there c.self.inside c.self.invariant c.args.self.now c.self.view_is c.args.id (id-below c.self.inside c.args.self.now c.args.id c.self.view_is c.requires.id_in) c.late_node_of-node.result c.late_node_of-node.ensures c.unlink.new.store c.unlink.ensures.nodes c.unlink.ensures.rest c.args.place c.requires.apart (place-in c.self.inside c.args.self.now c.args.place c.self.view_is c.requires.there)

pub put_between-requires-clause-at_in : goal.put_between-requires-clause-at_in
put_between-requires-clause-at_in c = at-there c.self.inside c.self.invariant c.args.self.now c.self.view_is c.args.id (id-below c.self.inside c.args.self.now c.args.id c.self.view_is c.requires.id_in) c.late_node_of-node.result c.late_node_of-node.ensures c.unlink.new.store c.unlink.ensures.nodes c.unlink.ensures.rest c.args.place c.requires.apart (place-in c.self.inside c.args.self.now c.args.place c.self.view_is c.requires.there) c.node_at-at.result c.node_at-at.ensures

pub put_between-requires-clause-node_in : goal.put_between-requires-clause-node_in
put_between-requires-clause-node_in c = alone-there c.self.inside c.self.invariant c.args.self.now c.self.view_is c.args.id (id-below c.self.inside c.args.self.now c.args.id c.self.view_is c.requires.id_in) c.late_node_of-node.result c.late_node_of-node.ensures c.unlink.new.store c.unlink.ensures.nodes c.unlink.ensures.rest c.args.place c.requires.apart (place-in c.self.inside c.args.self.now c.args.place c.self.view_is c.requires.there) c.node_at-at.result c.node_at-at.ensures

pub node-before-requires : goal.node-before-requires
node-before-requires c = at-there c.self.inside c.self.invariant c.args.self.now c.self.view_is c.args.id (id-below c.self.inside c.args.self.now c.args.id c.self.view_is c.requires.id_in) c.late_node_of-node.result c.late_node_of-node.ensures c.unlink.new.store c.unlink.ensures.nodes c.unlink.ensures.rest c.args.place c.requires.apart (place-in c.self.inside c.args.self.now c.args.place c.self.view_is c.requires.there) c.node_at-at.result c.node_at-at.ensures

pub put_between-requires-clause-before : goal.put_between-requires-clause-before
put_between-requires-clause-before c = sym (ap (λ (n : Node). n.prev) c.node-before.ensures)

pub put_between-requires-clause-before_in : goal.put_between-requires-clause-before_in
put_between-requires-clause-before_in c =
    subst (λ (n : Node). n.prev < length c.unlink.new.store.nodes) (sym c.node-before.ensures)
    (before-there c.self.inside c.self.invariant c.args.self.now c.self.view_is c.args.id (id-below c.self.inside c.args.self.now c.args.id c.self.view_is c.requires.id_in) c.late_node_of-node.result c.late_node_of-node.ensures c.unlink.new.store c.unlink.ensures.nodes c.unlink.ensures.rest c.args.place c.requires.apart (place-in c.self.inside c.args.self.now c.args.place c.self.view_is c.requires.there) c.node_at-at.result c.node_at-at.ensures)

pub invariant_of-self : goal.invariant_of-self
invariant_of-self c = sound-put c.self.inside c.self.invariant c.args.self.now c.self.view_is c.args.id (id-below c.self.inside c.args.self.now c.args.id c.self.view_is c.requires.id_in) c.late_node_of-node.result c.late_node_of-node.ensures c.unlink.new.store c.unlink.ensures.nodes c.unlink.ensures.rest c.args.place c.requires.apart (place-in c.self.inside c.args.self.now c.args.place c.self.view_is c.requires.there) c.node_at-at.result c.node_at-at.ensures c.put_between.new.self c.put_between.ensures

pub returns-clause-branches : goal.returns-clause-branches
returns-clause-branches c = branches-put c.self.inside c.self.invariant c.args.self.now c.self.view_is c.args.id (id-below c.self.inside c.args.self.now c.args.id c.self.view_is c.requires.id_in) c.late_node_of-node.result c.late_node_of-node.ensures c.unlink.new.store c.unlink.ensures.nodes c.unlink.ensures.rest c.args.place c.requires.apart (place-in c.self.inside c.args.self.now c.args.place c.self.view_is c.requires.there) c.node_at-at.result c.node_at-at.ensures c.put_between.new.self c.put_between.ensures
