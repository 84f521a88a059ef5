use Rattle.std.proofs.Common.{ap, sym, ◌∙◌, length, arith}
use Rattle.hp_store.specs.Lists.{leaf_at}
use Rattle.hp_store.specs.Store.{Stored}
use Rattle.hp_store.specs.Whole.{part_of}
use Rattle.hp_store.proofs.Laying.{count-leaves}
use Rattle.hp_store.proofs.Standing.{leaf-here, fits-here}
use Rattle.hp_store.proofs.store.Store.far_leaf.Goals as goal

pub leaf_part-part-requires-clause-number_in : goal.leaf_part-part-requires-clause-number_in
leaf_part-part-requires-clause-number_in c = omega (arith, c.requires, ap (λ (s : Stored). length s.leaves) c.self.view_is, count-leaves c.self.inside.parts.items c.self.inside.last c.self.invariant.laid)

pub leaf-requires : goal.leaf-requires
leaf-requires c = let fits = fits-here c.self.inside.parts.items c.self.inside.last c.leaf_part-part.result c.part_at.result.now c.self.invariant.laid (c.part_at.ensures ∙ ap (λ ps. part_of ps c.self.inside.last c.leaf_part-part.result) c.deref-2.ensures.value) c.self.invariant.fits in fits.leaves

pub returns : goal.returns
returns c =
    c.in-Some.ensures.leaf
    ∙ sym (leaf-here c.self.inside.parts.items c.self.inside.last c.leaf_part-part.result c.part_at.result.now c.self.invariant.laid (c.part_at.ensures ∙ ap (λ ps. part_of ps c.self.inside.last c.leaf_part-part.result) c.deref-2.ensures.value) c.args.number c.in-Some.ensures.here)
    ∙ ap (λ (s : Stored). leaf_at s.leaves c.args.number) c.self.view_is
