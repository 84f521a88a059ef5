use Rattle.std.proofs.Common.{◌≡◌, ◌<◌, ◌-◌, ap, sym, ◌∙◌, length, subst}
use Rattle.hp_store.specs.Store.{Element as ElementOf}
use Rattle.hp_store.specs.Lists.{tag_at}
use Rattle.hp_store.specs.Parts.{part_elements}
use Rattle.hp_store.proofs.Wraps.{element-way, element-short}
use Rattle.hp_store.proofs.Listed.{element-raised}
use Rattle.hp_store.proofs.part.Part.tag.Goals as goal

pub returns-in-Some-clause-tag : goal.returns-in-Some-clause-tag
returns-in-Some-clause-tag c =
    let p = c.args.self.now in
    let lookup = rw c.deref.ensures.value at c.in-Some.ensures.lookup in
    let after : p.before.elements < c.args.id = element-short p.before.elements c.args.id (length p.elements.items) c.requires c.ranges.id.fits (subst (λ n. n < length p.elements.items) c.place_of_element.ensures lookup.3.0) in
    let place : c.place_of_element.result ≡ c.args.id - p.before.elements - 1 = c.place_of_element.ensures ∙ element-way p.before.elements c.args.id after c.ranges.id.fits in
    ap (λ n. tag_at (part_elements p) n) (sym place)
    ∙ ap (λ (e : ElementOf). e.tag) (element-raised p.before.nodes p.elements.items c.place_of_element.result c.in-Some.element.now lookup.3.0 lookup.1)
