use Rattle.std.proofs.Common.{◌+◌, ◌<◌, length, arith}
use Rattle.hp_arena.proofs.Glue.{id-below}
use Rattle.hp_arena.proofs.Relinking.{source-there, target-there, sound-spliced, branches-spliced_there, branches-still}
use Rattle.hp_arena.proofs.arena.Arena.move_children.Goals as goal

pub node_of-source-requires : goal.node_of-source-requires
node_of-source-requires c = id-below c.self.inside c.args.self.now c.args.from c.self.view_is c.requires.from_in

pub node_of-target-requires : goal.node_of-target-requires
node_of-target-requires c = id-below c.self.inside c.args.self.now c.args.to c.self.view_is c.requires.to_in

pub overflow_add-source : goal.overflow_add-source
overflow_add-source c =
    let there : c.node_of-source.result + 1 < length c.self.inside.store.nodes = rw c.node_of-source.ensures (c.self.invariant.tree.end_in c.args.from (id-below c.self.inside c.args.self.now c.args.from c.self.view_is c.requires.from_in)) in
    omega (arith, c.self.invariant.room.numbers)

pub overflow_add-target : goal.overflow_add-target
overflow_add-target c =
    let there : c.node_of-target.result + 1 < length c.self.inside.store.nodes = rw c.node_of-target.ensures (c.self.invariant.tree.end_in c.args.to (id-below c.self.inside c.args.self.now c.args.to c.self.view_is c.requires.to_in)) in
    omega (arith, c.self.invariant.room.numbers)

pub node-requires : goal.node-requires
node-requires c = source-there c.self.inside c.self.invariant c.args.self.now c.self.view_is c.args.from c.args.to (id-below c.self.inside c.args.self.now c.args.from c.self.view_is c.requires.from_in) (id-below c.self.inside c.args.self.now c.args.to c.self.view_is c.requires.to_in) c.requires.apart c.node_of-source.result c.node_of-target.result c.node_of-source.ensures c.node_of-target.ensures

pub splice-requires-clause-source_in : goal.splice-requires-clause-source_in
splice-requires-clause-source_in c = source-there c.self.inside c.self.invariant c.args.self.now c.self.view_is c.args.from c.args.to (id-below c.self.inside c.args.self.now c.args.from c.self.view_is c.requires.from_in) (id-below c.self.inside c.args.self.now c.args.to c.self.view_is c.requires.to_in) c.requires.apart c.node_of-source.result c.node_of-target.result c.node_of-source.ensures c.node_of-target.ensures

pub splice-requires-clause-target_in : goal.splice-requires-clause-target_in
splice-requires-clause-target_in c = target-there c.self.inside c.self.invariant c.args.self.now c.self.view_is c.args.from c.args.to (id-below c.self.inside c.args.self.now c.args.from c.self.view_is c.requires.from_in) (id-below c.self.inside c.args.self.now c.args.to c.self.view_is c.requires.to_in) c.requires.apart c.node_of-source.result c.node_of-target.result c.node_of-source.ensures c.node_of-target.ensures

pub splice-requires-clause-closed : goal.splice-requires-clause-closed
splice-requires-clause-closed c = c.self.invariant.tree.closed

pub invariant_of-self : goal.invariant_of-self
invariant_of-self c = sound-spliced c.self.inside c.self.invariant c.args.self.now c.self.view_is c.args.from c.args.to (id-below c.self.inside c.args.self.now c.args.from c.self.view_is c.requires.from_in) (id-below c.self.inside c.args.self.now c.args.to c.self.view_is c.requires.to_in) c.requires.apart c.node_of-source.result c.node_of-target.result c.node_of-source.ensures c.node_of-target.ensures c.node.result c.node.ensures c.if-node-source.true c.splice.new.store c.splice.ensures.nodes c.splice.ensures.rest

pub returns-then-node-source-clause-branches : goal.returns-then-node-source-clause-branches
returns-then-node-source-clause-branches c =
    branches-spliced_there c.self.inside c.self.invariant c.args.self.now c.self.view_is c.args.from c.args.to (id-below c.self.inside c.args.self.now c.args.from c.self.view_is c.requires.from_in) (id-below c.self.inside c.args.self.now c.args.to c.self.view_is c.requires.to_in) c.requires.apart c.node_of-source.result c.node_of-target.result c.node_of-source.ensures c.node_of-target.ensures c.node.result c.node.ensures c.if-node-source.true c.splice.new.store c.splice.ensures.nodes c.splice.ensures.rest

pub returns-else-node-source-clause-branches : goal.returns-else-node-source-clause-branches
returns-else-node-source-clause-branches c = branches-still c.self.inside c.self.invariant c.args.self.now c.self.view_is c.args.from c.args.to (id-below c.self.inside c.args.self.now c.args.from c.self.view_is c.requires.from_in) (id-below c.self.inside c.args.self.now c.args.to c.self.view_is c.requires.to_in) c.requires.apart c.node_of-source.result c.node_of-target.result c.node_of-source.ensures c.node_of-target.ensures c.node.result c.node.ensures c.if-node-source.false
