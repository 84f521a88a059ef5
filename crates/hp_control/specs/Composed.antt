-- What the rules test in a full state, and the acts that are made of others (13.2.4.2, 13.2.6.4.7).
use Rattle.std.specs.Prelude.{ℕ, Bool, true, false, not, if◌then◌else◌, List, [], ◌∷◌, Option, Some, None, slice_get}
use Rattle.std.specs.Option.{is_some}
use Rattle.std.specs.List.{list_any, list_all}
use Rattle.hp_elements.specs.Names.{text_of}
use Rattle.hp_elements.specs.Tokens.{class_of}
use Rattle.hp_elements.specs.declared.act.Scope.{Scope}
use Rattle.hp_elements.specs.declared.act.Scope.TheVariants as scope
use Rattle.hp_elements.specs.declared.kinds.Kinds.{Kinds}
use Rattle.hp_elements.specs.declared.kinds.Kinds.TheVariants as kinds
use Rattle.hp_elements.specs.declared.known.Known.{Known}
use Rattle.hp_elements.specs.declared.known.Known.TheVariants as names
use Rattle.hp_elements.specs.declared.element_name.ElementName.TheVariants as element
use Rattle.hp_elements.specs.KnownNames as known
use Rattle.hp_elements.specs.declared.sets.SetName.{SetName}
use Rattle.hp_elements.specs.declared.sets.SetName.TheVariants as sets
use Rattle.hp_elements.specs.declared.token.CharClass.{CharClass}
use Rattle.hp_elements.specs.declared.token.CharClass.TheVariants.{White}
use Rattle.hp_control.specs.declared.edit.Child.TheVariants as child
use Rattle.hp_control.specs.declared.element.OpenElement.{OpenElement}
use Rattle.hp_control.specs.Acts.{pop_run, through_named, take_off, empty_form, put_here, frameset_not_ok, empty_pending, remove_entry}
use Rattle.hp_control.specs.Adoption.{Spot, find_name, adopt, reconstruct}
use Rattle.hp_control.specs.KindTests.{within}
use Rattle.hp_control.specs.Outcome.{Act, and_then, choose, nothing_done}
use Rattle.hp_control.specs.States.{ControlState, is_html, is_template}
use Rattle.hp_control.specs.Walks.{seen, scope_at, has_entry, last_named, second_is_body}

abbrev pub ends_of : Scope → SetName
ends_of scope.Default = sets.DefaultScopeEnds
ends_of scope.ListItem = sets.ListItemScopeEnds
ends_of scope.Button = sets.ButtonScopeEnds
ends_of scope.Table = sets.TableScopeEnds
ends_of scope.Select = sets.SelectScopeEnds

-- an element of these kinds is in that scope
abbrev pub in_scope : Scope → Kinds → ControlState → Bool
in_scope where_ goals c = seen goals (kinds.Set (ends_of where_)) c.stack

abbrev pub named_in_scope : Scope → List ℕ → ControlState → Bool
named_in_scope where_ name c = in_scope where_ (kinds.Html name) c

abbrev pub template_in_stack : ControlState → Bool
template_in_stack c = list_any is_template c.stack

abbrev pub has_modes : ControlState → Bool
has_modes c = is_some (slice_get c.templates 0)

abbrev pub is_second_body : ControlState → Bool
is_second_body c = second_is_body c.stack

abbrev pub first_is_foreign : List OpenElement → Bool
first_is_foreign [] = false
first_is_foreign (e ∷ es) = not (is_html e)

-- the current node is not an HTML element
abbrev pub is_foreign_now : ControlState → Bool
is_foreign_now c = first_is_foreign c.stack

abbrev pub is_frameset_ok : ControlState → Bool
is_frameset_ok c = c.frameset_ok

abbrev pub is_quirks : ControlState → Bool
is_quirks c = c.quirks

abbrev pub has_form : ControlState → Bool
has_form c = is_some c.form

abbrev pub is_one : Kinds → Option OpenElement → Bool
is_one goals None = false
is_one goals (Some e) = within goals e

-- the element at that depth is of these kinds
abbrev pub is_at : ℕ → Kinds → ControlState → Bool
is_at depth goals c = is_one goals (slice_get c.stack depth)

abbrev pub current_is : Kinds → ControlState → Bool
current_is goals c = is_at 0 goals c

abbrev pub below_is : Kinds → ControlState → Bool
below_is goals c = is_at 1 goals c

abbrev pub is_listed : List ℕ → ControlState → Bool
is_listed name c = is_some (last_named name c.formatting)

-- the implied end tags but that of the name
abbrev pub implied_but : Known → SetName
implied_but (names.Element element.Dd) = sets.ImpliedButDd
implied_but (names.Element element.Dt) = sets.ImpliedButDt
implied_but (names.Element element.Li) = sets.ImpliedButLi
implied_but (names.Element element.Optgroup) = sets.ImpliedButOptgroup
implied_but (names.Element element.Option) = sets.ImpliedButOption
implied_but (names.Element element.P) = sets.ImpliedButP
implied_but (names.Element element.Rb) = sets.ImpliedButRb
implied_but (names.Element element.Rp) = sets.ImpliedButRp
implied_but (names.Element element.Rt) = sets.ImpliedButRt
implied_but (names.Element element.Rtc) = sets.ImpliedButRtc
implied_but _ = sets.Implied

abbrev pub implied : Act
implied = pop_run (kinds.Set sets.Implied)

abbrev pub implied_except : Known → Act
implied_except name = pop_run (kinds.Set (implied_but name))

abbrev pub implied_thoroughly : Act
implied_thoroughly = pop_run (kinds.Set sets.ThoroughlyImplied)

-- closes the element of that name with what its end implies
abbrev pub close : Known → Act
close name = and_then (implied_except name) (through_named (text_of name))

abbrev pub close_paragraph : Act
close_paragraph = choose (named_in_scope scope.Button (text_of known.P)) (close known.P) nothing_done

-- the first element that is one of these or a barrier is one of these
abbrev pub is_item : Kinds → ControlState → Bool
is_item items c = seen items (kinds.Set sets.ItemBarriers) c.stack

abbrev pub close_item : Act
close_item = choose (is_item (kinds.Html (text_of known.Li))) (close known.Li) nothing_done

abbrev pub close_description : Act
close_description =
    choose (is_item (kinds.Html (text_of known.Dd))) (close known.Dd)
    (choose (is_item (kinds.Html (text_of known.Dt))) (close known.Dt) nothing_done)

-- the end of a form outside of templates: the pointer is emptied, and its element, where it is in scope, leaves the stack
abbrev pub is_open_form : ℕ → ControlState → Bool
is_open_form id c = is_some (scope_at id c.stack)

abbrev pub end_form_of : Option ℕ → Act
end_form_of None = nothing_done
end_form_of (Some id) = and_then empty_form (choose (is_open_form id) (and_then implied (take_off id)) nothing_done)

abbrev pub end_form_in_template : Act
end_form_in_template = choose (named_in_scope scope.Default (text_of known.Form)) (and_then implied (through_named (text_of known.Form))) nothing_done

abbrev pub end_form : Act
end_form = choose template_in_stack end_form_in_template (λ c. end_form_of c.form c)

-- the start of a link closes one that is open: it is adopted, and then its element leaves list and stack
abbrev pub drop_entry : ℕ → Act
drop_entry id = choose (λ c. has_entry id c.formatting) (remove_entry id) nothing_done

abbrev pub close_link_of : Bool → Option Spot → Act
close_link_of fostering None = nothing_done
close_link_of fostering (Some entry) = and_then (adopt fostering (text_of known.A)) (and_then (drop_entry entry.id) (take_off entry.id))

abbrev pub close_link : Bool → Act
close_link fostering c = close_link_of fostering (find_name (text_of known.A) c.formatting) c

abbrev pub is_white_class : CharClass → Bool
is_white_class White = true
is_white_class _ = false

abbrev pub is_white : ℕ → Bool
is_white c = is_white_class (class_of c)

-- one of the pending characters, by the rules of in body with fostering on
abbrev pub foster_character : ℕ → Act
foster_character c = and_then (reconstruct true) (and_then (put_here true (child.Text (c ∷ []))) (if is_white c then nothing_done else frameset_not_ok))

abbrev pub foster_characters : List ℕ → Act
foster_characters [] = nothing_done
foster_characters (c ∷ cs) = and_then (foster_character c) (foster_characters cs)

abbrev pub put_characters : List ℕ → Act
put_characters [] = nothing_done
put_characters (c ∷ cs) = and_then (put_here false (child.Text (c ∷ []))) (put_characters cs)

-- the pending table characters go into the tree (13.2.6.4.10)
abbrev pub flush : Act
flush c = and_then empty_pending (if list_all is_white c.pending then put_characters c.pending else foster_characters c.pending) c
