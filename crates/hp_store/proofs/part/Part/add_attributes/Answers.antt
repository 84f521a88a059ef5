use Rattle.std.proofs.Common.{◌≡◌, ◌+◌, ◌-◌, ◌<◌, ◌^◌, List, Option, Some, length, arith, ap, sym, ◌∙◌, subst}
use Rattle.hp_elements.specs.declared.tag.Attribute.{Attribute}
use Rattle.hp_elements.specs.declared.tag.Tag.{Tag}
use Rattle.hp_control.specs.Tree.{with_attributes}
use Rattle.hp_store.specs.Store.{Element as ElementOf}
use Rattle.hp_store.specs.Lists.{tag_at, with_tag_at, attribute_count}
use Rattle.hp_store.specs.Parts.{part_elements}
use Rattle.hp_store.proofs.Wraps.{element-way}
use Rattle.hp_store.proofs.Listed.{element-raised, tag-written, attributed}
use Rattle.hp_store.proofs.part.Part.add_attributes.Goals as goal

pub add_attributes-requires : goal.add_attributes-requires
add_attributes-requires c =
    let p = c.args.self.now in
    let i = c.place_of_element-place.result in
    let place : i ≡ c.args.id - p.before.elements - 1 = c.place_of_element-place.ensures ∙ element-way p.before.elements c.args.id c.requires.here.from c.ranges.id.fits in
    let there : i < length p.elements.items = omega (arith, place, c.requires.here.from, c.requires.here.to) in
    let tag_is : tag_at (part_elements p) i ≡ Some c.index_mut.result.now.tag = ap (λ (e : ElementOf). e.tag) (element-raised p.before.nodes p.elements.items i c.index_mut.result.now there c.index_mut.ensures.value) in
    subst (λ (t : Option Tag). attribute_count t + length c.args.more < 2 ^ 63) (ap (λ n. tag_at (part_elements p) n) (sym place) ∙ tag_is) c.requires.room

pub returns-clause-elements : goal.returns-clause-elements
returns-clause-elements c =
    let p = c.args.self.now in
    let i = c.place_of_element-place.result in
    let e = c.index_mut.result.now in
    let place : i ≡ c.args.id - p.before.elements - 1 = c.place_of_element-place.ensures ∙ element-way p.before.elements c.args.id c.requires.here.from c.ranges.id.fits in
    let there : i < length p.elements.items = omega (arith, place, c.requires.here.from, c.requires.here.to) in
    let tag_is : tag_at (part_elements p) i ≡ Some e.tag = ap (λ (x : ElementOf). x.tag) (element-raised p.before.nodes p.elements.items i e there c.index_mut.ensures.value) in
    let is : Some (attributed e.tag c.add_attributes.new.attributes) ≡ with_attributes (tag_at (part_elements p) i) c.args.more =
    ap (λ (xs : List Attribute). Some (attributed e.tag xs)) c.add_attributes.ensures.attributes ∙ ap (λ (t : Option Tag). with_attributes t c.args.more) (sym tag_is) in
    tag-written p.before.nodes p.elements.items i e (attributed e.tag c.add_attributes.new.attributes) (with_attributes (tag_at (part_elements p) i) c.args.more) there c.index_mut.ensures.value is
    ∙ ap (λ n. with_tag_at (part_elements p) n (with_attributes (tag_at (part_elements p) n) c.args.more)) place
