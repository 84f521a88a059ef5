use Rattle.std.proofs.Common.{ap, sym, ◌∙◌, length, arith}
use Rattle.hp_store.specs.Lists.{node_of}
use Rattle.hp_store.specs.Store.{Stored, Element as ElementOf}
use Rattle.hp_store.specs.Whole.{part_of}
use Rattle.hp_store.proofs.Laying.{count-elements}
use Rattle.hp_store.proofs.Standing.{element-here, fits-here}
use Rattle.hp_store.proofs.store.Store.far_node_of.Goals as goal

pub element_part-number-requires-clause-id_in : goal.element_part-number-requires-clause-id_in
element_part-number-requires-clause-id_in c = omega (arith, c.requires.id_in, ap (λ (s : Stored). length s.elements) c.self.view_is, count-elements c.self.inside.parts.items c.self.inside.last c.self.invariant.laid)

pub node_of-requires : goal.node_of-requires
node_of-requires c = let fits = fits-here c.self.inside.parts.items c.self.inside.last c.element_part-number.result c.part_at.result.now c.self.invariant.laid (c.part_at.ensures ∙ ap (λ ps. part_of ps c.self.inside.last c.element_part-number.result) c.deref-2.ensures.value) c.self.invariant.fits in fits.elements

pub returns : goal.returns
returns c =
    c.in-Some.ensures.node
    ∙ ap (λ (e : ElementOf). e.node) (sym (element-here c.self.inside.parts.items c.self.inside.last c.element_part-number.result c.part_at.result.now c.self.invariant.laid (c.part_at.ensures ∙ ap (λ ps. part_of ps c.self.inside.last c.element_part-number.result) c.deref-2.ensures.value) c.args.id c.in-Some.ensures.here))
    ∙ ap (λ (s : Stored). node_of s.elements c.args.id) c.self.view_is
