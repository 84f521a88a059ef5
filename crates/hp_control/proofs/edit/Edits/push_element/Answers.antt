use Rattle.std.proofs.Common.{◌≡◌, ap, sym, ◌∙◌}
use Rattle.hp_control.specs.Held.{held}
use Rattle.hp_control.specs.declared.edit.Child.TheVariants.{Element}
use Rattle.hp_control.proofs.Rooms.{room_of_all-made}
use Rattle.hp_control.proofs.edit.Edits.push_element.Goals as goal

pub invariant_of-self : goal.invariant_of-self
invariant_of-self c =
    let before : c.in-Some-items.items.items ≡ held c.self.inside.items = sym (ap held c.in-Some-items.is) ∙ c.begin.ensures.same in
    rw (c.push_reserved-in-Ok.ensures.items, c.push_reserved.ensures.items, c.in-Ok.ensures.items, before)
    (room_of_all-made (held c.self.inside.items) c.args.tag (Element c.args.node) c.args.place c.in-Some.room c.self.inside.room c.args.attributes c.self.invariant c.requires c.in-Some.ensures.1)
