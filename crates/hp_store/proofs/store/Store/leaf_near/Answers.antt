use Rattle.std.proofs.Common.{ap, sym, ◌∙◌, ◌≡◌, ◌<◌, length, arith}
use Rattle.std.proofs.lemmas.List.{get_or_default}
use Rattle.hp_store.specs.declared.node.Counts.{Counts}
use Rattle.hp_store.specs.Lists.{leaf_at, no_leaf}
use Rattle.hp_store.specs.Store.{Stored}
use Rattle.hp_store.specs.Whole.{part_of}
use Rattle.hp_store.proofs.Standing.{leaf-here, fits-here}
use Rattle.hp_store.proofs.Laying.{count-leaves}
use Rattle.hp_store.proofs.Bare.{none-left, bare-before, bare-leaves}
use Rattle.hp_store.proofs.store.Store.leaf_near.Goals as goal

pub index-requires : goal.index-requires
index-requires c =
    let ps = c.self.inside.parts.items in
    let last = c.self.inside.last in
    let none : length ps ≡ 0 = none-left _ (length ps) (sym c.is_empty.ensures ∙ c.if-is_empty.true) c.self.inside.parts.ok.0 in
    omega (arith, c.requires, ap (λ (s : Stored). length s.leaves) c.self.view_is, count-leaves ps last c.self.invariant.laid, ap (λ (b : Counts). b.leaves) (bare-before ps last none c.self.invariant.laid), last.leaves.ok.0)

pub returns-then-is_empty : goal.returns-then-is_empty
returns-then-is_empty c =
    let ps = c.self.inside.parts.items in
    let last = c.self.inside.last in
    let none : length ps ≡ 0 = none-left _ (length ps) (sym c.is_empty.ensures ∙ c.if-is_empty.true) c.self.inside.parts.ok.0 in
    let here : c.args.number < length last.leaves.items =
    omega (arith, c.requires, ap (λ (s : Stored). length s.leaves) c.self.view_is, count-leaves ps last c.self.invariant.laid, ap (λ (b : Counts). b.leaves) (bare-before ps last none c.self.invariant.laid)) in
    c.index.ensures
    ∙ get_or_default last.leaves.items c.args.number c.index.result.now no_leaf here
    ∙ ap (λ ls. leaf_at ls c.args.number) (sym (bare-leaves ps last none))
    ∙ ap (λ (s : Stored). leaf_at s.leaves c.args.number) c.self.view_is

pub leaf-requires : goal.leaf-requires
leaf-requires c =
    let fits = fits-here c.self.inside.parts.items c.self.inside.last c.args.near c.part_at.result.now c.self.invariant.laid
    (c.part_at.ensures ∙ ap (λ ps. part_of ps c.self.inside.last c.args.near) c.deref.ensures.value) c.self.invariant.fits in
    fits.leaves

pub returns : goal.returns
returns c =
    c.in-Some.ensures.leaf
    ∙ sym (leaf-here c.self.inside.parts.items c.self.inside.last c.args.near c.part_at.result.now c.self.invariant.laid
    (c.part_at.ensures ∙ ap (λ ps. part_of ps c.self.inside.last c.args.near) c.deref.ensures.value) c.args.number c.in-Some.ensures.here)
    ∙ ap (λ (s : Stored). leaf_at s.leaves c.args.number) c.self.view_is
