use Rattle.hp_arena.proofs.Glue.{id-below}
use Rattle.hp_arena.proofs.Relinking.{node-there, sound-detached, branches-apart}
use Rattle.hp_arena.proofs.arena.Arena.detach.Goals as goal

pub node_of-node-requires : goal.node_of-node-requires
node_of-node-requires c = id-below c.self.inside c.args.self.now c.args.id c.self.view_is c.requires

pub unlink-requires-clause-node_in : goal.unlink-requires-clause-node_in
unlink-requires-clause-node_in c = node-there c.self.inside c.self.invariant c.args.self.now c.self.view_is c.args.id (id-below c.self.inside c.args.self.now c.args.id c.self.view_is c.requires) c.node_of-node.result c.node_of-node.ensures

pub unlink-requires-clause-closed : goal.unlink-requires-clause-closed
unlink-requires-clause-closed c = c.self.invariant.tree.closed

pub unlink-requires-clause-ringed : goal.unlink-requires-clause-ringed
unlink-requires-clause-ringed c = c.self.invariant.tree.ringed

pub invariant_of-self : goal.invariant_of-self
invariant_of-self c = sound-detached c.self.inside c.self.invariant c.args.self.now c.self.view_is c.args.id (id-below c.self.inside c.args.self.now c.args.id c.self.view_is c.requires) c.node_of-node.result c.node_of-node.ensures c.unlink.new.store c.unlink.ensures.nodes c.unlink.ensures.rest

pub returns-clause-branches : goal.returns-clause-branches
returns-clause-branches c = branches-apart c.self.inside c.self.invariant c.args.self.now c.self.view_is c.args.id (id-below c.self.inside c.args.self.now c.args.id c.self.view_is c.requires) c.node_of-node.result c.node_of-node.ensures c.unlink.new.store c.unlink.ensures.nodes c.unlink.ensures.rest
