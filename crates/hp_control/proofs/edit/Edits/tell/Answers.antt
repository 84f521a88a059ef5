use Rattle.std.proofs.Common.{◌≡◌, ◌++◌, ◌∙◌, length, map, take, drop, ap, sym}
use Rattle.hp_control.specs.Apply.{named_edit}
use Rattle.hp_control.specs.Edits.{room_of_all}
use Rattle.hp_control.specs.Held.{held}
use Rattle.hp_control.specs.Nothing.{nothing}
use Rattle.hp_control.proofs.Changed.{changed_whole}
use Rattle.hp_control.proofs.Rooms.{room_of_all-named}
use Rattle.hp_control.proofs.edit.Edits.tell.Goals as goal

pub invariant_of-self-2 : goal.invariant_of-self-2
invariant_of-self-2 c =
    let items = c.in-Some.items.items in
    let told = c.tell_all.new.edits in
    let all : take c.in-Some.items.len (told ++ drop (length told) items) ≡ map (named_edit nothing) items = changed_whole (named_edit nothing) items told c.in-Some.items.len (c.tell_all.ensures ∙ ap (map (named_edit nothing)) c.deref_mut.ensures.value) c.in-Some.items.ok.0 in
    c.self.invariant ∙ ap (λ list. room_of_all (held list)) c.in-Some.is ∙ sym (ap room_of_all all ∙ room_of_all-named nothing items)

pub returns : goal.returns
returns c =
    let items = c.in-Some.items.items in
    let told = c.tell_all.new.edits in
    changed_whole (named_edit nothing) items told c.in-Some.items.len (c.tell_all.ensures ∙ ap (map (named_edit nothing)) c.deref_mut.ensures.value) c.in-Some.items.ok.0
    ∙ ap (map (named_edit nothing)) (sym (ap held c.in-Some.is) ∙ c.self.view_is)
