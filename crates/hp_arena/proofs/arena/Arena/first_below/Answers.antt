use Rattle.std.proofs.Common.{◌+◌, ◌<◌, length, arith}
use Rattle.hp_arena.proofs.Reading.{end-there, first-below, none-below}
use Rattle.hp_arena.proofs.arena.Arena.first_below.Goals as goal

pub returns-in_default : goal.returns-in_default
returns-in_default c = none-below c.self.inside c.self.invariant c.args.self.now c.self.view_is c.args.at c.requires c.in_default.not-Element

pub overflow_add-at : goal.overflow_add-at
overflow_add-at c =
    let there : c.args.at.node + 1 < length c.self.inside.store.nodes = end-there c.self.inside c.self.invariant c.args.self.now c.self.view_is c.args.at c.requires c.in-Element.id c.in-Element.is in
    omega (arith, c.self.invariant.room.numbers)

pub node_near-part-requires : goal.node_near-part-requires
node_near-part-requires c = end-there c.self.inside c.self.invariant c.args.self.now c.self.view_is c.args.at c.requires c.in-Element.id c.in-Element.is

pub spot-requires : goal.spot-requires
spot-requires c = rw c.node_near-part.ensures (c.self.invariant.tree.closed.next _ (end-there c.self.inside c.self.invariant c.args.self.now c.self.view_is c.args.at c.requires c.in-Element.id c.in-Element.is))

pub returns : goal.returns
returns c = first-below c.self.inside c.self.invariant c.args.self.now c.self.view_is c.args.at c.requires c.in-Element.id c.in-Element.is c.node_near-part.result.0 c.node_near-part.ensures c.spot.result c.spot.ensures
