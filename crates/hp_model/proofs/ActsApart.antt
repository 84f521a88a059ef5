-- No act of tree construction reads the lexer's part of the control state.
use Rattle.std.proofs.Common.{◌≡◌, ℕ, zero, suc, Bool, true, false, cond, List, [], ◌∷◌, Option, None, Some, length, refl, ap, ◌∙◌}
use Rattle.std.specs.Prelude.{nat_le, slice_get}
use Rattle.std.specs.List.{list_all}
use Rattle.std.specs.Option.{is_some}
use Rattle.hp_elements.specs.Names.{text_of, known_of}
use Rattle.hp_elements.specs.Quirks.{gives_quirks}
use Rattle.hp_elements.specs.declared.act.Act.TheVariants as act
use Rattle.hp_elements.specs.declared.act.Act.{Act as RowAct}
use Rattle.hp_elements.specs.declared.kinds.Kinds.{Kinds}
use Rattle.hp_elements.specs.declared.kinds.Kinds.TheVariants as kinds
use Rattle.hp_elements.specs.declared.known.Known.{Known}
use Rattle.hp_elements.specs.KnownNames as known
use Rattle.hp_elements.specs.declared.act.Scope.TheVariants as scope
use Rattle.hp_elements.specs.declared.sets.Namespace.{Namespace}
use Rattle.hp_elements.specs.declared.sets.SetName.TheVariants as sets
use Rattle.hp_elements.specs.declared.tag.Tag.{Tag}
use Rattle.hp_elements.specs.declared.token.Token.{Token}
use Rattle.hp_tokens.specs.declared.lexing.LexState.{LexState}
use Rattle.hp_control.specs.declared.edit.Child.TheVariants as child
use Rattle.hp_control.specs.declared.element.FormattingEntry.{FormattingEntry}
use Rattle.hp_control.specs.declared.element.FormattingEntry.TheVariants.{Marker, Element}
use Rattle.hp_control.specs.Acts.{append_entry, append_to_list, empty_form, empty_pending, equal_ids, frameset_not_ok, head_element, headed, insert, make_room, pop, pop_by, push_head_of, put_here, remove_earliest, remove_entry, set_quirks, take_head_off_of, take_off, taken_off, through, through_named, touching, with_it, with_stack}
use Rattle.hp_control.specs.Adoption.{Case, Unlisted, Closed, Hidden, Alone, Tangled, Spot, adopt, case_of, find_name, goes_on, is_plain, reconstruct, renew, renew_down, renew_entry, stale, turn, turn_in, turns}
use Rattle.hp_control.specs.Composed.{close, close_description, close_item, close_link_of, close_paragraph, drop_entry, end_form, end_form_in_template, end_form_of, flush, foster_character, foster_characters, implied, implied_except, is_item, is_open_form, is_white, named_in_scope, put_characters, template_in_stack}
use Rattle.hp_control.specs.Foreign.{current_namespace, insert_in, opened_namespace, tag_in}
use Rattle.hp_control.specs.Outcome.{Act, Outcome, after, and_then, becomes, choose, nothing_done}
use Rattle.hp_control.specs.States.{ControlState}
use Rattle.hp_control.specs.Walks.{has_entry, open_at, reach, seen}
use Rattle.hp_model.specs.Apart.{relexed_outcome, relexed_state}
use Rattle.hp_model.specs.Steps.{implied_but_for, step}
use Rattle.hp_model.specs.Tokens.{is_self_closing, name_for, name_of, parts_of, tag_of}

abbrev pub Apart : Act → Type 0
Apart f = (lex : LexState) (c : ControlState) → f (relexed_state lex c) ≡ relexed_outcome lex (f c)

-- a test that doesn't read it
abbrev pub Blind : (ControlState → Bool) → Type 0
Blind test = (lex : LexState) (c : ControlState) → test (relexed_state lex c) ≡ test c

in_order : (f g : Act) → Apart f → Apart g → Apart (and_then f g)
in_order f g k l lex c = ap (λ (o : Outcome). after o (g o.control)) (k lex c) ∙ ap (after (relexed_outcome lex (f c))) (l lex (f c).control)

pub either : (b : Bool) (o p q r : Outcome) (lex : LexState) → o ≡ relexed_outcome lex q → p ≡ relexed_outcome lex r → cond b o p ≡ relexed_outcome lex (cond b q r)
either true o p q r lex h k = h
either false o p q r lex h k = k

chosen : (test : ControlState → Bool) (f g : Act) → Blind test → Apart f → Apart g → Apart (choose test f g)
chosen test f g e k l lex c =
    ap (λ (b : Bool). cond b (f (relexed_state lex c)) (g (relexed_state lex c))) (e lex c)
    ∙ either (test c) (f (relexed_state lex c)) (g (relexed_state lex c)) (f c) (g c) lex (k lex c) (l lex c)

one_of : (b : Bool) (f g : Act) → Apart f → Apart g → Apart (cond b f g)
one_of true f g k l = k
one_of false f g k l = l

nothing : Apart nothing_done
nothing lex c = refl

through-apart : (goals stops : Kinds) → Apart (through goals stops)
through-apart goals stops lex c =
    let count : ℕ = with_it (reach goals stops c.stack) in
    either (seen goals stops c.stack) (pop_by count (relexed_state lex c)) (becomes (relexed_state lex c)) (pop_by count c) (becomes c) lex refl refl

taken_off-apart : (id : ℕ) (o : Option ℕ) → Apart (taken_off id o)
taken_off-apart id None lex c = refl
taken_off-apart id (Some zero) lex c = refl
taken_off-apart id (Some (suc k)) lex c = refl

take_off-apart : (id : ℕ) → Apart (take_off id)
take_off-apart id lex c = taken_off-apart id (open_at id c.stack) lex c

push_head_of-apart : (o : Option ℕ) → Apart (push_head_of o)
push_head_of-apart None lex c = refl
push_head_of-apart (Some id) lex c =
    let es = head_element id ∷ c.stack in
    either (is_some (open_at id c.stack)) (becomes (relexed_state lex c)) (with_stack es (relexed_state lex c)) (becomes c) (with_stack es c) lex refl refl

take_head_off_of-apart : (o : Option ℕ) → Apart (take_head_off_of o)
take_head_off_of-apart None lex c = refl
take_head_off_of-apart (Some id) lex c = take_off-apart id lex c

remove_earliest-apart : (ids : List ℕ) → Apart (remove_earliest ids)
remove_earliest-apart [] lex c = refl
remove_earliest-apart (id ∷ []) lex c = refl
remove_earliest-apart (id ∷ other ∷ ids) lex c = remove_earliest-apart (other ∷ ids) lex c

append_to_list-apart : (tag : Tag) → Apart (append_to_list tag)
append_to_list-apart tag =
    in_order (λ c. make_room (equal_ids tag c.formatting) c) (append_entry tag)
    (λ lex c. one_of (nat_le 3 (length (equal_ids tag c.formatting))) (remove_earliest (equal_ids tag c.formatting)) nothing_done (remove_earliest-apart (equal_ids tag c.formatting)) nothing lex c) (λ lex c. refl)

insert_in-apart : (space : Namespace) (fostering self_closing : Bool) (tag : Tag) → Apart (insert_in space fostering self_closing tag)
insert_in-apart space fostering self_closing tag =
    in_order (insert fostering (tag_in space tag)) (cond self_closing pop nothing_done) (λ lex c. refl) (one_of self_closing pop nothing_done (λ lex c. refl) nothing)

renew_entry-apart : (fostering : Bool) (o : Option FormattingEntry) (depth : ℕ) → Apart (renew_entry fostering o depth)
renew_entry-apart fostering None depth lex c = refl
renew_entry-apart fostering (Some Marker) depth lex c = refl
renew_entry-apart fostering (Some (Element id tag)) depth lex c = refl

renew_down-apart : (fostering : Bool) (depth : ℕ) → Apart (renew_down fostering depth)
renew_down-apart fostering zero = nothing
renew_down-apart fostering (suc depth) =
    in_order (renew fostering depth) (renew_down fostering depth) (λ lex c. renew_entry-apart fostering (slice_get c.formatting depth) depth lex c) (renew_down-apart fostering depth)

reconstruct-apart : (fostering : Bool) → Apart (reconstruct fostering)
reconstruct-apart fostering lex c = renew_down-apart fostering (stale c.stack c.formatting) lex c

close-apart : (name : Known) → Apart (close name)
close-apart name = in_order (implied_except name) (through_named (text_of name)) (λ lex c. refl) (through-apart (kinds.Html (text_of name)) kinds.Nothing)

close_paragraph-apart : Apart close_paragraph
close_paragraph-apart = chosen (named_in_scope scope.Button (text_of known.P)) (close known.P) nothing_done (λ lex c. refl) (close-apart known.P) nothing

close_item-apart : Apart close_item
close_item-apart = chosen (is_item (kinds.Html (text_of known.Li))) (close known.Li) nothing_done (λ lex c. refl) (close-apart known.Li) nothing

close_description-apart : Apart close_description
close_description-apart =
    chosen (is_item (kinds.Html (text_of known.Dd))) (close known.Dd) (choose (is_item (kinds.Html (text_of known.Dt))) (close known.Dt) nothing_done) (λ lex c. refl) (close-apart known.Dd)
    (chosen (is_item (kinds.Html (text_of known.Dt))) (close known.Dt) nothing_done (λ lex c. refl) (close-apart known.Dt) nothing)

end_form_of-apart : (o : Option ℕ) → Apart (end_form_of o)
end_form_of-apart None = nothing
end_form_of-apart (Some id) =
    in_order empty_form (choose (is_open_form id) (and_then implied (take_off id)) nothing_done) (λ lex c. refl)
    (chosen (is_open_form id) (and_then implied (take_off id)) nothing_done (λ lex c. refl) (in_order implied (take_off id) (λ lex c. refl) (take_off-apart id)) nothing)

end_form_in_template-apart : Apart end_form_in_template
end_form_in_template-apart =
    chosen (named_in_scope scope.Default (text_of known.Form)) (and_then implied (through_named (text_of known.Form))) nothing_done (λ lex c. refl)
    (in_order implied (through_named (text_of known.Form)) (λ lex c. refl) (through-apart (kinds.Html (text_of known.Form)) kinds.Nothing)) nothing

end_form-apart : Apart end_form
end_form-apart = chosen template_in_stack end_form_in_template (λ c. end_form_of c.form c) (λ lex c. refl) end_form_in_template-apart (λ lex c. end_form_of-apart c.form lex c)

drop_entry-apart : (id : ℕ) → Apart (drop_entry id)
drop_entry-apart id = chosen (λ c. has_entry id c.formatting) (remove_entry id) nothing_done (λ lex c. refl) (λ lex c. refl) nothing

turn_in-apart : (fostering : Bool) (name : List ℕ) (k : Case) → Apart (turn_in fostering name k)
turn_in-apart fostering name Unlisted = through-apart (kinds.Html name) (kinds.Set sets.Special)
turn_in-apart fostering name (Closed entry) = λ lex c. refl
turn_in-apart fostering name Hidden = nothing
turn_in-apart fostering name (Alone entry depth) = λ lex c. refl
turn_in-apart fostering name (Tangled entry depth block) = λ lex c. refl

turn-apart : (fostering : Bool) (name : List ℕ) → Apart (turn fostering name)
turn-apart fostering name lex c = turn_in-apart fostering name (case_of name c) lex c

turns-apart : (n : ℕ) (fostering : Bool) (name : List ℕ) → Apart (turns n fostering name)
unfolding turns
turns-apart zero fostering name = nothing
turns-apart (suc n) fostering name =
    chosen (goes_on name) (and_then (turn fostering name) (turns n fostering name)) (turn fostering name) (λ lex c. refl)
    (in_order (turn fostering name) (turns n fostering name) (turn-apart fostering name) (turns-apart n fostering name)) (turn-apart fostering name)

adopt-apart : (fostering : Bool) (name : List ℕ) → Apart (adopt fostering name)
adopt-apart fostering name = chosen (is_plain name) pop (turns 8 fostering name) (λ lex c. refl) (λ lex c. refl) (turns-apart 8 fostering name)

close_link_of-apart : (fostering : Bool) (o : Option Spot) → Apart (close_link_of fostering o)
close_link_of-apart fostering None = nothing
close_link_of-apart fostering (Some entry) =
    in_order (adopt fostering (text_of known.A)) (and_then (drop_entry entry.id) (take_off entry.id)) (adopt-apart fostering (text_of known.A))
    (in_order (drop_entry entry.id) (take_off entry.id) (drop_entry-apart entry.id) (take_off-apart entry.id))

foster_character-apart : (x : ℕ) → Apart (foster_character x)
foster_character-apart x =
    in_order (reconstruct true) (and_then (put_here true (child.Text (x ∷ []))) (cond (is_white x) nothing_done frameset_not_ok)) (reconstruct-apart true)
    (in_order (put_here true (child.Text (x ∷ []))) (cond (is_white x) nothing_done frameset_not_ok) (λ lex c. refl) (one_of (is_white x) nothing_done frameset_not_ok nothing (λ lex c. refl)))

foster_characters-apart : (text : List ℕ) → Apart (foster_characters text)
foster_characters-apart [] = nothing
foster_characters-apart (x ∷ xs) = in_order (foster_character x) (foster_characters xs) (foster_character-apart x) (foster_characters-apart xs)

put_characters-apart : (text : List ℕ) → Apart (put_characters text)
put_characters-apart [] = nothing
put_characters-apart (x ∷ xs) = in_order (put_here false (child.Text (x ∷ []))) (put_characters xs) (λ lex c. refl) (put_characters-apart xs)

flush-apart : Apart flush
flush-apart lex c =
    in_order empty_pending (cond (list_all is_white c.pending) (put_characters c.pending) (foster_characters c.pending)) (λ l d. refl)
    (one_of (list_all is_white c.pending) (put_characters c.pending) (foster_characters c.pending) (put_characters-apart c.pending) (foster_characters-apart c.pending)) lex c

implied_but_for-apart : (o : Option Known) → Apart (implied_but_for o)
implied_but_for-apart None lex c = refl
implied_but_for-apart (Some name) lex c = refl

pub step-apart : (fostering : Bool) (t : Token) (a : RowAct) → Apart (step fostering t a)
step-apart fostering t act.QuirksOfDoctype = one_of (gives_quirks (parts_of t)) set_quirks nothing_done (λ lex c. refl) nothing
step-apart fostering t act.InsertForeign = insert_in-apart (opened_namespace (tag_of t).name) fostering (is_self_closing t) (tag_of t)
step-apart fostering t act.InsertAsCurrent = λ lex c. insert_in-apart (current_namespace c.stack) fostering (is_self_closing t) (tag_of t) lex c
step-apart fostering t act.PushHead = λ lex c. ap (touching headed) (push_head_of-apart c.head lex c)
step-apart fostering t act.Reconstruct = reconstruct-apart fostering
step-apart fostering t (act.Through which) = through-apart (kinds.Html (name_for t which)) kinds.Nothing
step-apart fostering t (act.ThroughFirstOf names) = through-apart (kinds.Set names) kinds.Nothing
step-apart fostering t act.ThroughForeign = through-apart (kinds.Foreign (name_of t)) kinds.AnyHtml
step-apart fostering t (act.ImpliedExcept which) = implied_but_for-apart (known_of (name_for t which))
step-apart fostering t act.CloseParagraph = close_paragraph-apart
step-apart fostering t act.CloseItem = close_item-apart
step-apart fostering t act.CloseDescription = close_description-apart
step-apart fostering t act.Walk = through-apart (kinds.Html (name_of t)) (kinds.Set sets.Special)
step-apart fostering t act.TakeHeadOff = λ lex c. ap (touching headed) (take_head_off_of-apart c.head lex c)
step-apart fostering t act.EndForm = end_form-apart
step-apart fostering t act.CloseLink = λ lex c. close_link_of-apart fostering (find_name (text_of known.A) c.formatting) lex c
step-apart fostering t act.AppendToList = append_to_list-apart (tag_of t)
step-apart fostering t (act.Adopt which) = adopt-apart fostering (name_for t which)
step-apart fostering t act.Flush = flush-apart
step-apart fostering t _ = λ lex c. refl
