use Rattle.std.proofs.Common.{ap, sym, ◌∙◌, length, arith}
use Rattle.hp_store.specs.Lists.{node_at}
use Rattle.hp_store.specs.Store.{Stored}
use Rattle.hp_store.specs.Whole.{part_of}
use Rattle.hp_store.proofs.Laying.{count-nodes}
use Rattle.hp_store.proofs.Standing.{node-here, fits-here}
use Rattle.hp_store.proofs.store.Store.far_node.Goals as goal

pub node_part-number-requires-clause-at_in : goal.node_part-number-requires-clause-at_in
node_part-number-requires-clause-at_in c = omega (arith, c.requires, ap (λ (s : Stored). length s.nodes) c.self.view_is, count-nodes c.self.inside.parts.items c.self.inside.last c.self.invariant.laid)

pub node-requires : goal.node-requires
node-requires c = let fits = fits-here c.self.inside.parts.items c.self.inside.last c.node_part-number.result c.part_at.result.now c.self.invariant.laid (c.part_at.ensures ∙ ap (λ ps. part_of ps c.self.inside.last c.node_part-number.result) c.deref-2.ensures.value) c.self.invariant.fits in fits.nodes

pub returns : goal.returns
returns c =
    c.in-Some.ensures.node
    ∙ sym (node-here c.self.inside.parts.items c.self.inside.last c.node_part-number.result c.part_at.result.now c.self.invariant.laid (c.part_at.ensures ∙ ap (λ ps. part_of ps c.self.inside.last c.node_part-number.result) c.deref-2.ensures.value) c.args.at c.in-Some.ensures.here)
    ∙ ap (λ (s : Stored). node_at s.nodes c.args.at) c.self.view_is
