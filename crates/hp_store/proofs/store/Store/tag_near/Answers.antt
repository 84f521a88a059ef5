use Rattle.std.proofs.Common.{ap, sym, ◌∙◌, ◌≡◌, ◌-◌, length, arith}
use Rattle.hp_store.specs.declared.node.Counts.{Counts}
use Rattle.hp_store.specs.Lists.{tag_at}
use Rattle.hp_store.specs.Store.{Stored, Element as ElementOf}
use Rattle.hp_store.specs.Whole.{part_of}
use Rattle.hp_store.proofs.Standing.{element-here, fits-here}
use Rattle.hp_store.proofs.Laying.{count-elements}
use Rattle.hp_store.proofs.Bare.{none-left, bare-before, bare-elements, element-shown}
use Rattle.hp_store.proofs.store.Store.tag_near.Goals as goal

pub own_tag-requires-clause-id_in : goal.own_tag-requires-clause-id_in
own_tag-requires-clause-id_in c =
    let ps = c.self.inside.parts.items in
    let last = c.self.inside.last in
    let none : length ps ≡ 0 = none-left _ (length ps) (sym c.is_empty.ensures ∙ c.if-is_empty.true) c.self.inside.parts.ok.0 in
    omega (arith, c.requires.id_in, ap (λ (s : Stored). length s.elements) c.self.view_is, count-elements ps last c.self.invariant.laid, ap (λ (b : Counts). b.elements) (bare-before ps last none c.self.invariant.laid))

pub returns-then-is_empty : goal.returns-then-is_empty
returns-then-is_empty c =
    let ps = c.self.inside.parts.items in
    let last = c.self.inside.last in
    let none : length ps ≡ 0 = none-left _ (length ps) (sym c.is_empty.ensures ∙ c.if-is_empty.true) c.self.inside.parts.ok.0 in
    ap (λ (s : Stored). tag_at s.elements c.args.id) (sym c.self.view_is)
    ∙ ap (λ (e : ElementOf). e.tag) (element-shown _ c.args.id (omega arith))
    ∙ ap (λ es. tag_at es (c.args.id - 1)) (bare-elements ps last none)
    ∙ c.own_tag.ensures

pub tag-requires : goal.tag-requires
tag-requires c = let fits = fits-here c.self.inside.parts.items c.self.inside.last c.args.near c.part_at.result.now c.self.invariant.laid (c.part_at.ensures ∙ ap (λ ps. part_of ps c.self.inside.last c.args.near) c.deref.ensures.value) c.self.invariant.fits in fits.elements

pub returns-in-Some : goal.returns-in-Some
returns-in-Some c =
    ap (λ (s : Stored). tag_at s.elements c.args.id) (sym c.self.view_is)
    ∙ ap (λ (e : ElementOf). e.tag) (element-here c.self.inside.parts.items c.self.inside.last c.args.near c.part_at.result.now c.self.invariant.laid (c.part_at.ensures ∙ ap (λ ps. part_of ps c.self.inside.last c.args.near) c.deref.ensures.value) c.args.id c.in-Some.ensures.here)
    ∙ c.in-Some.ensures.tag
