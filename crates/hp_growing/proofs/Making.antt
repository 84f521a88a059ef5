-- The acts of tree construction name what is there.
use Rattle.std.proofs.Common.{ℕ, zero, suc, ◌+◌, ◌-◌, ◌<◌, List, [], ◌∷◌, take, drop, length, min, Bool, true, false, refl, arith, Option, None, Some}
use Rattle.std.specs.Prelude.{IfSome, if◌then◌else◌, slice_get}
use Rattle.std.specs.Option.{is_some}
use Rattle.std.proofs.lemmas.List.Elements.{All-cons, All-drop, All-take, All-append}
use Rattle.hp_elements.specs.Names.{text_of}
use Rattle.hp_elements.specs.declared.act.Scope.TheVariants as scope
use Rattle.hp_elements.specs.declared.kinds.Kinds.{Kinds}
use Rattle.hp_elements.specs.declared.kinds.Kinds.TheVariants as kinds
use Rattle.hp_elements.specs.declared.known.Known.{Known}
use Rattle.hp_elements.specs.KnownNames as known
use Rattle.hp_elements.specs.declared.sets.SetName.TheVariants as sets
use Rattle.hp_elements.specs.declared.tag.Attribute.{Attribute}
use Rattle.hp_elements.specs.declared.tag.Tag.{Tag}
use Rattle.hp_control.specs.declared.edit.Child.{Child}
use Rattle.hp_control.specs.declared.edit.Child.TheVariants as child
use Rattle.hp_control.specs.declared.edit.Edit.TheVariants.{NewElement, Put, Detach, AddMissing}
use Rattle.hp_control.specs.declared.edit.Place.{Place}
use Rattle.hp_control.specs.declared.edit.Place.TheVariants.{Into}
use Rattle.hp_control.specs.declared.edit.Ref.TheVariants.{Fixed}
use Rattle.hp_control.specs.declared.element.OpenElement.{OpenElement}
use Rattle.hp_control.specs.declared.element.FormattingEntry.{FormattingEntry}
use Rattle.hp_control.specs.declared.element.FormattingEntry.TheVariants.{Marker, Element}
use Rattle.hp_control.specs.Acts as acts
use Rattle.hp_control.specs.Adoption.{Spot, relist, renew, renew_down, renew_entry, reconstruct, stale, strike}
use Rattle.hp_control.specs.Composed.{close, close_description, close_item, close_paragraph, drop_entry, end_form, end_form_in_template, end_form_of, implied, implied_but, implied_except, implied_thoroughly, is_item, is_open_form, named_in_scope, template_in_stack}
use Rattle.hp_control.specs.Outcome.{Act, Outcome, and_then, becomes, choose, nothing_done}
use Rattle.hp_control.specs.States.{ControlState}
use Rattle.hp_control.specs.Walks.{has_entry, open_at, reach, run_of, seen}
use Rattle.hp_growing.specs.Naming.{NamesThere}
use Rattle.hp_growing.proofs.There.{AreThere, ChildThere, IsThere, PlaceThere, current-there, first-there, head-later, named-cons, named-put, names_none, names_then, one-there, place-later, place-there, second-there, there-later}

-- the document, the open elements and the head element are there
pub record HasIds (next : ℕ) (elements : List OpenElement) (pointer : Option ℕ) : Type 0 where
  pub document : 0 < next
  pub stack : AreThere next elements
  pub head : IfSome pointer (λ id. id < next)

abbrev pub Has : ControlState → Type 0
Has c = HasIds c.next c.stack c.head

-- what an act makes of such a state: it names what is there, and what it leaves is one
abbrev pub Makes : ControlState → Outcome → Type 0
Makes c o = NamesThere c.next o.edits o.control.next × Has o.control

abbrev pub Making : Act → Type 0
Making f = (c : ControlState) → Has c → Makes c (f c)

pub makes_none : (c : ControlState) → Has c → Makes c (becomes c)
makes_none c h = (names_none c.next, h)

pub making_nothing : Making nothing_done
making_nothing c h = makes_none c h

pub making_then : (f g : Act) → Making f → Making g → Making (and_then f g)
making_then f g p q c h =
    let a = p c h in
    let b = q (f c).control a.1 in
    (names_then c.next (f c).control.next (g (f c).control).control.next (f c).edits (g (f c).control).edits a.0 b.0, b.1)

pub making_choose : (test : ControlState → Bool) (f g : Act) → Making f → Making g → Making (choose test f g)
making_choose test f g p q c h = go (test c)
  where
    go : (b : Bool) → Makes c (if b then f c else g c)
    go true = p c h
    go false = q c h

-- another stack
makes_stack : (c : ControlState) (stack : List OpenElement) → Has c → AreThere c.next stack → Makes c (becomes (record c { stack = stack }))
makes_stack c stack h k = (names_none c.next, record { document = h.document; stack = k; head = h.head })

pub making_pop_by : (count : ℕ) → Making (acts.pop_by count)
making_pop_by count c h = makes_stack c (acts.popped_by count c.stack) h (All-drop (IsThere c.next) (min count (length c.stack - 1)) c.stack h.stack)

pub making_pop : Making acts.pop
making_pop = making_pop_by 1

making_pop_run : (names : Kinds) → Making (acts.pop_run names)
making_pop_run names c h = making_pop_by (run_of names c.stack) c h

pub making_pop_to : (goals : Kinds) → Making (acts.pop_to goals)
making_pop_to goals c h = making_pop_by (acts.above (reach goals kinds.Nothing c.stack) c.stack) c h

pub making_pop_to_first : Making acts.pop_to_first
making_pop_to_first c h = making_pop_by (length c.stack) c h

pub making_through : (goals stops : Kinds) → Making (acts.through goals stops)
making_through goals stops c h = making_choose (λ d. seen goals stops d.stack) (acts.pop_by (acts.with_it (reach goals stops c.stack))) nothing_done (making_pop_by (acts.with_it (reach goals stops c.stack))) making_nothing c h

pub making_through_named : (name : List ℕ) → Making (acts.through_named name)
making_through_named name = making_through (kinds.Html name) kinds.Nothing

pub making_walk : (name : List ℕ) → Making (acts.walk name)
making_walk name = making_through (kinds.Html name) (kinds.Set sets.Special)

pub making_take_off : (id : ℕ) → Making (acts.take_off id)
making_take_off id c h = go (open_at id c.stack)
  where
    go : (o : Option ℕ) → Makes c (acts.taken_off id o c)
    go None = makes_none c h
    go (Some zero) = making_pop c h
    go (Some (suc k)) =
        makes_stack c (acts.without (suc k) c.stack) h
        (All-append (IsThere c.next) (take (suc k) c.stack) (drop (suc k + 1) c.stack) (All-take (IsThere c.next) (suc k) c.stack h.stack) (All-drop (IsThere c.next) (suc k + 1) c.stack h.stack))

-- the head element
pub making_push_head : Making acts.push_head
making_push_head c h = go c.head h.head
  where
    over : (id : ℕ) (b : Bool) → id < c.next → Makes c (if b then becomes c else acts.with_stack (acts.head_element id ∷ c.stack) c)
    over id true k = makes_none c h
    over id false k = makes_stack c (acts.head_element id ∷ c.stack) h (All-cons (IsThere c.next) (acts.head_element id) c.stack k h.stack)

    go : (o : Option ℕ) → IfSome o (λ id. id < c.next) → Makes c (acts.push_head_of o c)
    go None k = makes_none c h
    go (Some id) k = over id (is_some (open_at id c.stack)) k

pub making_take_head_off : Making acts.take_head_off
making_take_head_off c h = go c.head
  where
    go : (o : Option ℕ) → Makes c (acts.take_head_off_of o c)
    go None = makes_none c h
    go (Some id) = making_take_off id c h

pub making_point_head : Making acts.point_head
making_point_head c h = (names_none c.next, record { document = h.document; stack = h.stack; head = current-there c.next c.stack h.document h.stack })

-- what is put, added or taken out
makes_put : (what : Child) (p : Place) (c : ControlState) → Has c → ChildThere c.next what → PlaceThere c.next p → Makes c (acts.put_at what p c)
makes_put what p c h k l = (record { named = named-put c.next what p [] k l refl; counted = omega arith }, h)

pub making_put_here : (fostering : Bool) (what : Child) → ((next : ℕ) → ChildThere next what) → Making (acts.put_here fostering what)
making_put_here fostering what k c h = makes_put what (acts.place fostering c.stack) c h (k c.next) (place-there c.next fostering c.stack h.document h.stack)

pub making_put_into_document : (what : Child) → ((next : ℕ) → ChildThere next what) → Making (acts.put_at what (Into (Fixed 0)))
making_put_into_document what k c h = makes_put what (Into (Fixed 0)) c h (k c.next) h.document

pub making_put_into_first : (what : Child) → ((next : ℕ) → ChildThere next what) → Making (acts.put_into_first what)
making_put_into_first what k c h = makes_put what (Into (Fixed (acts.first_id c.stack))) c h (k c.next) (first-there c.next c.stack h.document h.stack)

pub making_add_missing_to_first : (attributes : List Attribute) → Making (acts.add_missing_to_first attributes)
making_add_missing_to_first attributes c h =
    (record { named = named-cons c.next (AddMissing (Fixed (acts.first_id c.stack)) attributes) [] (one-there c.next (acts.first_id c.stack) (first-there c.next c.stack h.document h.stack)) refl; counted = omega arith }, h)

pub making_add_missing_to_body : (attributes : List Attribute) → Making (acts.add_missing_to_body attributes)
making_add_missing_to_body attributes c h =
    (record { named = named-cons c.next (AddMissing (Fixed (acts.second_id c.stack)) attributes) [] (one-there c.next (acts.second_id c.stack) (second-there c.next c.stack h.document h.stack)) refl; counted = omega arith }, h)

pub making_detach_body : Making acts.detach_body
making_detach_body c h =
    (record { named = named-cons c.next (Detach (Fixed (acts.second_id c.stack))) [] (one-there c.next (acts.second_id c.stack) (second-there c.next c.stack h.document h.stack)) refl; counted = omega arith }, h)

-- a new element
makes_insert : (tag : Tag) (p : Place) (c : ControlState) → Has c → PlaceThere c.next p → Makes c (acts.insert_at tag p c)
makes_insert tag p c h k = (
  record {
    named = named-cons c.next (NewElement tag) (Put (child.Element (Fixed c.next)) p ∷ []) refl
        (named-put (c.next + 1) (child.Element (Fixed c.next)) p [] (omega arith) (place-later c.next (c.next + 1) p (omega arith) k) refl);
    counted = omega arith;
  },
  record {
    document = omega arith;
    stack = All-cons (IsThere (c.next + 1)) (acts.element_for c.next tag) c.stack (omega arith) (there-later c.next (c.next + 1) c.stack (omega arith) h.stack);
    head = head-later c.next (c.next + 1) c.head (omega arith) h.head;
  },
)

pub making_insert : (fostering : Bool) (tag : Tag) → Making (acts.insert fostering tag)
making_insert fostering tag c h = makes_insert tag (acts.place fostering c.stack) c h (place-there c.next fostering c.stack h.document h.stack)

pub making_insert_into_document : (tag : Tag) → Making (acts.insert_into_document tag)
making_insert_into_document tag c h = makes_insert tag (Into (Fixed 0)) c h h.document

-- the formatting list
making_remove_entry : (id : ℕ) → Making (acts.remove_entry id)
making_remove_entry id c h = makes_none c h

making_remove_earliest : (ids : List ℕ) → Making (acts.remove_earliest ids)
making_remove_earliest [] = making_nothing
making_remove_earliest (id ∷ []) = making_remove_entry id
making_remove_earliest (id ∷ other ∷ ids) = making_remove_earliest (other ∷ ids)

making_room : (ids : List ℕ) (b : Bool) → Making (if b then acts.remove_earliest ids else nothing_done)
making_room ids true = making_remove_earliest ids
making_room ids false = making_nothing

pub making_append_to_list : (tag : Tag) → Making (acts.append_to_list tag)
making_append_to_list tag = making_then (λ c. acts.make_room (acts.equal_ids tag c.formatting) c) (acts.append_entry tag) (λ c h. making_room (acts.equal_ids tag c.formatting) _ c h) (λ c h. makes_none c h)

pub making_strike : (entry : Spot) → Making (strike entry)
making_strike entry c h = makes_none c h

-- reconstruction
making_renew : (fostering : Bool) (depth : ℕ) → Making (renew fostering depth)
making_renew fostering depth c h = go (slice_get c.formatting depth)
  where
    go : (o : Option FormattingEntry) → Makes c (renew_entry fostering o depth c)
    go None = makes_none c h
    go (Some Marker) = makes_none c h
    go (Some (Element id tag)) = making_then (relist depth id tag) (acts.insert fostering tag) (λ d k. makes_none d k) (making_insert fostering tag) c h

making_renew_down : (fostering : Bool) (depth : ℕ) → Making (renew_down fostering depth)
making_renew_down fostering zero = making_nothing
making_renew_down fostering (suc depth) = making_then (renew fostering depth) (renew_down fostering depth) (making_renew fostering depth) (making_renew_down fostering depth)

pub making_reconstruct : (fostering : Bool) → Making (reconstruct fostering)
making_reconstruct fostering c h = making_renew_down fostering (stale c.stack c.formatting) c h

-- what an end implies
pub making_implied : Making implied
making_implied = making_pop_run (kinds.Set sets.Implied)

pub making_implied_except : (name : Known) → Making (implied_except name)
making_implied_except name = making_pop_run (kinds.Set (implied_but name))

pub making_implied_thoroughly : Making implied_thoroughly
making_implied_thoroughly = making_pop_run (kinds.Set sets.ThoroughlyImplied)

making_close : (name : Known) → Making (close name)
making_close name = making_then (implied_except name) (acts.through_named (text_of name)) (making_implied_except name) (making_through_named (text_of name))

pub making_close_paragraph : Making close_paragraph
making_close_paragraph = making_choose (named_in_scope scope.Button (text_of known.P)) (close known.P) nothing_done (making_close known.P) making_nothing

pub making_close_item : Making close_item
making_close_item = making_choose (is_item (kinds.Html (text_of known.Li))) (close known.Li) nothing_done (making_close known.Li) making_nothing

pub making_close_description : Making close_description
making_close_description =
    making_choose (is_item (kinds.Html (text_of known.Dd))) (close known.Dd) (choose (is_item (kinds.Html (text_of known.Dt))) (close known.Dt) nothing_done)
    (making_close known.Dd) (making_choose (is_item (kinds.Html (text_of known.Dt))) (close known.Dt) nothing_done (making_close known.Dt) making_nothing)

pub making_drop_entry : (id : ℕ) → Making (drop_entry id)
making_drop_entry id = making_choose (λ c. has_entry id c.formatting) (acts.remove_entry id) nothing_done (making_remove_entry id) making_nothing

making_end_form_of : (o : Option ℕ) → Making (end_form_of o)
making_end_form_of None = making_nothing
making_end_form_of (Some id) =
    making_then acts.empty_form (choose (is_open_form id) (and_then implied (acts.take_off id)) nothing_done) (λ c h. makes_none c h)
    (making_choose (is_open_form id) (and_then implied (acts.take_off id)) nothing_done (making_then implied (acts.take_off id) making_implied (making_take_off id)) making_nothing)

making_end_form_in_template : Making end_form_in_template
making_end_form_in_template = making_choose (named_in_scope scope.Default (text_of known.Form)) (and_then implied (acts.through_named (text_of known.Form))) nothing_done
    (making_then implied (acts.through_named (text_of known.Form)) making_implied (making_through_named (text_of known.Form))) making_nothing

pub making_end_form : Making end_form
making_end_form = making_choose template_in_stack end_form_in_template (λ c. end_form_of c.form c) making_end_form_in_template (λ c h. making_end_form_of c.form c h)
