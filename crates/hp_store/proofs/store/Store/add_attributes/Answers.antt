use Rattle.std.proofs.Common.{◌≡◌, ◌+◌, ◌<◌, ◌^◌, Option, length, refl, arith, ap, sym, ◌∙◌, subst}
use Rattle.hp_elements.specs.declared.tag.Tag.{Tag}
use Rattle.hp_control.specs.Tree.{with_attributes}
use Rattle.hp_store.specs.Store.{Stored, Element as ElementOf}
use Rattle.hp_store.specs.Lists.{tag_at, with_tag_at, attribute_count}
use Rattle.hp_store.specs.Parts.{HasElement}
use Rattle.hp_store.specs.Whole.{seen}
use Rattle.hp_store.proofs.Laying.{count-elements}
use Rattle.hp_store.proofs.Standing.{element-here, fits-here, last-held, part-held}
use Rattle.hp_store.proofs.Whole.{IsSound-last_elements, IsSound-part_elements, elements-last, elements-part}
use Rattle.hp_store.proofs.store.Store.add_attributes.Goals as goal

pub add_attributes-requires-clause-here : goal.add_attributes-requires-clause-here
add_attributes-requires-clause-here c = record {
  from = c.if-self-id.true;
  to = omega (arith, c.requires.id_in, ap (λ (s : Stored). length s.elements) c.self.view_is, count-elements c.self.inside.parts.items c.self.inside.last c.self.invariant.laid);
}

pub add_attributes-requires-clause-room : goal.add_attributes-requires-clause-room
add_attributes-requires-clause-room c =
    let a = c.self.inside in
    let has : HasElement a.last c.args.id = record {
      from = c.if-self-id.true;
      to = omega (arith, c.requires.id_in, ap (λ (s : Stored). length s.elements) c.self.view_is, count-elements a.parts.items a.last c.self.invariant.laid);
    } in
    subst (λ (t : Option Tag). attribute_count t + length c.args.more < 2 ^ 63)
    (ap (λ (s : Stored). tag_at s.elements c.args.id) (sym c.self.view_is)
    ∙ ap (λ (e : ElementOf). e.tag) (element-here a.parts.items a.last (length a.parts.items) a.last c.self.invariant.laid (last-held a.parts.items a.last) c.args.id has))
    c.requires.room

pub invariant_of-self : goal.invariant_of-self
invariant_of-self c = IsSound-last_elements c.self.inside c.add_attributes.new.self c.self.invariant c.add_attributes.ensures.kept

pub returns-then-self-id : goal.returns-then-self-id
returns-then-self-id c =
    elements-last c.self.inside c.add_attributes.new.self c.args.id (λ (e : ElementOf). record e { tag = with_attributes e.tag c.args.more }) c.self.invariant c.if-self-id.true c.add_attributes.ensures.kept c.add_attributes.ensures.elements
    ∙ ap (λ (s : Stored). record s { elements = with_tag_at s.elements c.args.id (with_attributes (tag_at s.elements c.args.id) c.args.more) }) c.self.view_is

pub returns-then-id-eq0 : goal.returns-then-id-eq0
returns-then-id-eq0 c =
    let same : seen c.self.inside ≡ record (seen c.self.inside) { elements = with_tag_at (seen c.self.inside).elements 0 (with_attributes (tag_at (seen c.self.inside).elements 0) c.args.more) } = refl in
    let id : 0 ≡ c.args.id = omega arith in
    sym c.self.view_is ∙ same
    ∙ ap (λ (s : Stored). record s { elements = with_tag_at s.elements 0 (with_attributes (tag_at s.elements 0) c.args.more) }) c.self.view_is
    ∙ ap (λ n. record c.args.self.now { elements = with_tag_at c.args.self.now.elements n (with_attributes (tag_at c.args.self.now.elements n) c.args.more) }) id

pub add_attributes-requires-2-clause-fits : goal.add_attributes-requires-2-clause-fits
add_attributes-requires-2-clause-fits c =
    let a = c.self.inside in
    let h : c.element_part-part.result < length a.parts.items = rw c.deref.ensures.value at (c.element_part-part.ensures.finished (omega (arith, c.if-self-id.false))) in
    let fits = fits-here a.parts.items a.last c.element_part-part.result c.index_mut.result.now c.self.invariant.laid (part-held a.parts.items a.last c.element_part-part.result c.index_mut.result.now h c.index_mut.ensures.value) c.self.invariant.fits in
    fits.elements

pub add_attributes-requires-2-clause-room : goal.add_attributes-requires-2-clause-room
add_attributes-requires-2-clause-room c =
    let a = c.self.inside in
    let k = c.element_part-part.result in
    let p = c.index_mut.result.now in
    let h : k < length a.parts.items = rw c.deref.ensures.value at (c.element_part-part.ensures.finished (omega (arith, c.if-self-id.false))) in
    let held = part-held a.parts.items a.last k p h c.index_mut.ensures.value in
    let has : HasElement p c.args.id = subst (λ q. HasElement q c.args.id) (sym held) (rw c.deref.ensures.value at c.element_part-part.ensures.here) in
    subst (λ (t : Option Tag). attribute_count t + length c.args.more < 2 ^ 63)
    (ap (λ (s : Stored). tag_at s.elements c.args.id) (sym c.self.view_is) ∙ ap (λ (e : ElementOf). e.tag) (element-here a.parts.items a.last k p c.self.invariant.laid held c.args.id has))
    c.requires.room

pub invariant_of-self-2 : goal.invariant_of-self-2
invariant_of-self-2 c =
    let a = c.self.inside in
    let h : c.element_part-part.result < length a.parts.items = rw c.deref.ensures.value at (c.element_part-part.ensures.finished (omega (arith, c.if-self-id.false))) in
    IsSound-part_elements a c.element_part-part.result c.index_mut.result.now c.add_attributes-2.new.self c.self.invariant h c.index_mut.ensures.value c.add_attributes-2.ensures.kept

pub returns : goal.returns
returns c =
    let a = c.self.inside in
    let k = c.element_part-part.result in
    let p = c.index_mut.result.now in
    let h : k < length a.parts.items = rw c.deref.ensures.value at (c.element_part-part.ensures.finished (omega (arith, c.if-self-id.false))) in
    let held = part-held a.parts.items a.last k p h c.index_mut.ensures.value in
    let has : HasElement p c.args.id = subst (λ q. HasElement q c.args.id) (sym held) (rw c.deref.ensures.value at c.element_part-part.ensures.here) in
    elements-part a k c.args.id p c.add_attributes-2.new.self (λ (e : ElementOf). record e { tag = with_attributes e.tag c.args.more }) c.self.invariant h c.index_mut.ensures.value has c.add_attributes-2.ensures.kept c.add_attributes-2.ensures.elements
    ∙ ap (λ (s : Stored). record s { elements = with_tag_at s.elements c.args.id (with_attributes (tag_at s.elements c.args.id) c.args.more) }) c.self.view_is
