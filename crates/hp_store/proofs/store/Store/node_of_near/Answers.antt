use Rattle.std.proofs.Common.{ap, sym, ◌∙◌}
use Rattle.hp_store.specs.Lists.{node_of}
use Rattle.hp_store.specs.Store.{Stored, Element as ElementOf}
use Rattle.hp_store.specs.Whole.{part_of}
use Rattle.hp_store.proofs.Standing.{element-here, fits-here}
use Rattle.hp_store.proofs.store.Store.node_of_near.Goals as goal

pub node_of-requires : goal.node_of-requires
node_of-requires c = let fits = fits-here c.self.inside.parts.items c.self.inside.last c.args.near c.part_at.result.now c.self.invariant.laid (c.part_at.ensures ∙ ap (λ ps. part_of ps c.self.inside.last c.args.near) c.deref.ensures.value) c.self.invariant.fits in fits.elements

pub returns-in-Some : goal.returns-in-Some
returns-in-Some c =
    c.in-Some.ensures.node
    ∙ ap (λ (e : ElementOf). e.node) (sym (element-here c.self.inside.parts.items c.self.inside.last c.args.near c.part_at.result.now c.self.invariant.laid (c.part_at.ensures ∙ ap (λ ps. part_of ps c.self.inside.last c.args.near) c.deref.ensures.value) c.args.id c.in-Some.ensures.here))
    ∙ ap (λ (s : Stored). node_of s.elements c.args.id) c.self.view_is
