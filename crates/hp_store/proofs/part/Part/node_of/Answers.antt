use Rattle.std.proofs.Common.{◌≡◌, ◌<◌, ◌-◌, ap, sym, ◌∙◌, length, subst}
use Rattle.hp_store.specs.Store.{Element as ElementOf}
use Rattle.hp_store.specs.Lists.{node_of}
use Rattle.hp_store.specs.Parts.{part_elements}
use Rattle.hp_store.proofs.Wraps.{element-way, element-short}
use Rattle.hp_store.proofs.Listed.{element-raised}
use Rattle.hp_store.proofs.part.Part.node_of.Goals as goal

pub returns-in-Some-clause-node : goal.returns-in-Some-clause-node
returns-in-Some-clause-node c =
    let p = c.args.self.now in
    let lookup = rw c.deref.ensures.value at c.in-Some.ensures.lookup in
    let after : p.before.elements < c.args.id = element-short p.before.elements c.args.id (length p.elements.items) c.requires c.ranges.id.fits (subst (λ n. n < length p.elements.items) c.place_of_element.ensures lookup.3.0) in
    let place : c.place_of_element.result ≡ c.args.id - p.before.elements - 1 = c.place_of_element.ensures ∙ element-way p.before.elements c.args.id after c.ranges.id.fits in
    ap (λ (e : ElementOf). e.node) (sym (element-raised p.before.nodes p.elements.items c.place_of_element.result c.in-Some.element.now lookup.3.0 lookup.1))
    ∙ ap (λ n. node_of (part_elements p) n) place
