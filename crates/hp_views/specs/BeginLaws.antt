-- A view that begins stands for the state that it begins from.
use Rattle.std.specs.Prelude.{◌≡◌, ℕ, zero, suc, ◌+◌, ◌<◌, Bool, true, false, not, ◌&&◌, List, [], ◌∷◌, ◌++◌, Option, Some, None, map, drop, length, refl}
use Rattle.std.specs.Str.{bytes_eq}
use Rattle.std.proofs.Common.{sym, subst, ap, ◌∙◌, arith}
use Rattle.std.proofs.lemmas.List.{append-nil}
use Rattle.hp_elements.specs.declared.token.Mode.{Mode}
use Rattle.hp_elements.specs.declared.token.Rest.{Rest}
use Rattle.hp_elements.specs.declared.token.Rest.TheVariants as rest
use Rattle.hp_tokens.specs.Advancing.{rest_state}
use Rattle.hp_tokens.specs.Rows.{resting}
use Rattle.hp_tokens.specs.States.{enter, state_of_rest}
use Rattle.hp_tokens.specs.declared.lexing.LexState.{LexState}
use Rattle.hp_tokens.specs.declared.machine.Machine.{Machine}
use Rattle.hp_tokens.specs.declared.state.State.{State}
use Rattle.hp_tokens.specs.declared.state.State.TheVariants.{Data, Rcdata, Rawtext, ScriptData, Plaintext, ScriptDataEscaped, ScriptDataEscapedDash, ScriptDataEscapedDashDash, ScriptDataDoubleEscaped, ScriptDataDoubleEscapedDash, ScriptDataDoubleEscapedDashDash, CdataSection}
use Rattle.hp_control.specs.declared.change.FormChange.{FormChange}
use Rattle.hp_control.specs.declared.change.FormChange.TheVariants as form
use Rattle.hp_control.specs.declared.element.OpenElement.{OpenElement}
use Rattle.hp_control.specs.declared.element.FormattingEntry.{FormattingEntry}
use Rattle.hp_control.specs.declared.element.FormattingEntry.TheVariants.{Marker, Element}
use Rattle.hp_control.specs.declared.question.Answer.{Answer}
use Rattle.hp_control.specs.declared.question.Answer.TheVariants as answer
use Rattle.hp_control.specs.declared.question.Question.TheVariants as ask
use Rattle.hp_control.specs.States.{ControlState, AreIds, LexFits, IsValid, is_rooted, may_be_ahead}
use Rattle.hp_control.specs.Nothing.{nothing}
use Rattle.hp_control.specs.Walks.{cleared, cleared_by}
use Rattle.hp_control.specs.Truth.{answer_of, rest_of, entry_answer}
use Rattle.hp_control.specs.Apply.{applied, shifted, shifted_entry, form_after, lex_after, IsOlder}
use Rattle.hp_control.specs.Faithful.{Page, Split, with_page, state_over, StandsOn}
use Rattle.hp_control.specs.Viewing.{state_of}
use Rattle.hp_views.specs.Begins.{form_of, form_left, head_of, quirks_of, whole_of, with_lexer, begins}
use Rattle.hp_views.specs.Quiet.{drop_none}

-- without an older state numbers are ids
shifted_none : (es : List OpenElement) → map (shifted 0) es ≡ es
shifted_none [] = refl
shifted_none (e ∷ es) = ap (λ n. record e { id = n } ∷ map (shifted 0) es) (let z : 0 + e.id ≡ e.id = omega arith in z) ∙ ap (λ l. e ∷ l) (shifted_none es)

entries_none : (es : List FormattingEntry) → map (shifted_entry 0) es ≡ es
entries_none [] = refl
entries_none (Marker ∷ es) = ap (λ l. Marker ∷ l) (entries_none es)
entries_none (Element id tag ∷ es) = ap (λ n. Element n tag ∷ map (shifted_entry 0) es) (let z : 0 + id ≡ id = omega arith in z) ∙ ap (λ l. Element id tag ∷ l) (entries_none es)

cleared_none : (n : ℕ) → cleared_by n [] ≡ []
cleared_none zero = refl
cleared_none (suc n) = ap cleared (cleared_none n)

own_stack : (n : ℕ) (es : List OpenElement) → map (shifted 0) es ++ drop n [] ≡ es
own_stack n es = ap (λ l. map (shifted 0) es ++ l) (drop_none n) ∙ (append-nil (map (shifted 0) es) ∙ shifted_none es)

own_list : (n : ℕ) (es : List FormattingEntry) → map (shifted_entry 0) es ++ cleared_by n [] ≡ es
own_list n es = ap (λ l. map (shifted_entry 0) es ++ l) (cleared_none n) ∙ (append-nil (map (shifted_entry 0) es) ∙ entries_none es)

own_form : (f : FormChange) → form_after f nothing ≡ form_left f
own_form form.Kept = refl
own_form form.Cleared = refl
own_form (form.Own id) = ap Some (let z : 0 + id ≡ id = omega arith in z)

-- the parts that a view without an older state has, put together
abbrev told : ControlState → List Mode → List OpenElement → List FormattingEntry → Option ℕ → ℕ → ControlState
told c ms es fs f n = record c { templates = ms; stack = es; formatting = fs; form = f; next = n }

-- the state of a view without an older one, of its parts
over_nothing : (v : Split) → applied v.change nothing ≡ told (applied v.change nothing) v.change.templates v.change.stack v.change.formatting (form_left v.change.form) v.change.made
over_nothing v =
    let c = v.change in
    let b = applied c nothing in
    ap (λ ms. told b ms b.stack b.formatting b.form b.next) (append-nil c.templates)
    ∙ (ap (λ es. told b c.templates es b.formatting b.form b.next) (own_stack c.popped c.stack)
    ∙ (ap (λ fs. told b c.templates c.stack fs b.form b.next) (own_list c.cuts c.formatting)
    ∙ (ap (λ f. told b c.templates c.stack c.formatting f b.next) (own_form c.form)
    ∙ ap (λ n. told b c.templates c.stack c.formatting (form_left c.form) n) (let z : 0 + c.made ≡ c.made = omega arith in z))))

page_told : (page : Option Page) (lex : LexState) (v : Split) → with_lexer lex (with_page page (told (applied v.change nothing) v.change.templates v.change.stack v.change.formatting (form_left v.change.form) v.change.made)) ≡ state_of lex v.change.mode v.change.original v.change.templates v.change.stack v.change.formatting (head_of page) (form_left v.change.form) (not v.change.frameset_off) (quirks_of page) v.change.pending v.change.skip_lf v.change.made
page_told None lex v = refl
page_told (Some p) lex v = refl

-- the parts of a view that ends
pub ended_whole : (lex : LexState) (v : Split) → with_lexer lex (state_over v nothing) ≡ state_of lex v.change.mode v.change.original v.change.templates v.change.stack v.change.formatting (head_of v.page) (form_left v.change.form) (not v.change.frameset_off) (quirks_of v.page) v.change.pending v.change.skip_lf v.change.made
ended_whole lex v = ap (λ c. with_lexer lex (with_page v.page c)) (over_nothing v) ∙ page_told v.page lex v

form_again : (f : Option ℕ) → form_left (form_of f) ≡ f
form_again None = refl
form_again (Some id) = refl

not_not : (b : Bool) → not (not b) ≡ b
not_not true = refl
not_not false = refl

-- the whole state is the view's
pub whole_again : (c : ControlState) → state_over (whole_of c) nothing ≡ c
whole_again c =
    ap (λ s. with_page (whole_of c).page s) (over_nothing (whole_of c))
    ∙ (ap (λ f. record c { form = f; frameset_ok = not (not c.frameset_ok) }) (form_again c.form)
    ∙ ap (λ b. record c { frameset_ok = b }) (not_not c.frameset_ok))

pub nothing_older : IsOlder nothing
nothing_older = record { short = omega arith; next = omega arith; entries = omega arith; stack_ids = tt; list_ids = tt; form = tt; pending = refl }

-- the lexer at rest has no other parts
entered : (r : Rest) (m : Machine) → record (resting r m.after_cr) { last_tag = m.last_tag } ≡ enter (state_of_rest r) m
entered rest.Data m = refl
entered rest.Rcdata m = refl
entered rest.Rawtext m = refl
entered rest.Script m = refl
entered rest.Plaintext m = refl
entered rest.Escaped m = refl
entered rest.EscapedDash m = refl
entered rest.EscapedDashDash m = refl
entered rest.Double m = refl
entered rest.DoubleDash m = refl
entered rest.DoubleDashDash m = refl
entered rest.Cdata m = refl

none_ahead : (text : List ℕ) → bytes_eq text [] ≡ true → [] ≡ text
none_ahead [] h = refl
none_ahead (x ∷ xs) h = absurd (cc)

ahead_of : (r : Rest) (text : List ℕ) → may_be_ahead (state_of_rest r) text ≡ true → [] ≡ text
ahead_of rest.Data text h = none_ahead text h
ahead_of rest.Rcdata text h = none_ahead text h
ahead_of rest.Rawtext text h = none_ahead text h
ahead_of rest.Script text h = none_ahead text h
ahead_of rest.Plaintext text h = none_ahead text h
ahead_of rest.Escaped text h = none_ahead text h
ahead_of rest.EscapedDash text h = none_ahead text h
ahead_of rest.EscapedDashDash text h = none_ahead text h
ahead_of rest.Double text h = none_ahead text h
ahead_of rest.DoubleDash text h = none_ahead text h
ahead_of rest.DoubleDashDash text h = none_ahead text h
ahead_of rest.Cdata text h = none_ahead text h

rest_back : (st : State) (r : Rest) → rest_of st ≡ Some r → state_of_rest r ≡ st
rest_back Data r h = ap state_of_rest (let e : r ≡ rest.Data = cc in e)
rest_back Rcdata r h = ap state_of_rest (let e : r ≡ rest.Rcdata = cc in e)
rest_back Rawtext r h = ap state_of_rest (let e : r ≡ rest.Rawtext = cc in e)
rest_back ScriptData r h = ap state_of_rest (let e : r ≡ rest.Script = cc in e)
rest_back Plaintext r h = ap state_of_rest (let e : r ≡ rest.Plaintext = cc in e)
rest_back ScriptDataEscaped r h = ap state_of_rest (let e : r ≡ rest.Escaped = cc in e)
rest_back ScriptDataEscapedDash r h = ap state_of_rest (let e : r ≡ rest.EscapedDash = cc in e)
rest_back ScriptDataEscapedDashDash r h = ap state_of_rest (let e : r ≡ rest.EscapedDashDash = cc in e)
rest_back ScriptDataDoubleEscaped r h = ap state_of_rest (let e : r ≡ rest.Double = cc in e)
rest_back ScriptDataDoubleEscapedDash r h = ap state_of_rest (let e : r ≡ rest.DoubleDash = cc in e)
rest_back ScriptDataDoubleEscapedDashDash r h = ap state_of_rest (let e : r ≡ rest.DoubleDashDash = cc in e)
rest_back CdataSection r h = ap state_of_rest (let e : r ≡ rest.Cdata = cc in e)
rest_back _ r h = absurd (cc)

lexer_again : (r : Rest) (l : LexState) → state_of_rest r ≡ l.machine.state → LexFits l → lex_after false (rest_state r l.machine.after_cr) l ≡ l
lexer_again r l e h =
    let P : State → Type 0 = λ st. may_be_ahead st l.ahead ≡ true in
    ap (λ m. record { machine = m; ahead = [] }) (entered r l.machine ∙ (ap (λ st. enter st l.machine) e ∙ h.parts))
    ∙ ap (λ text. record { machine = l.machine; ahead = text }) (ahead_of r l.ahead (subst P (sym e) h.ahead))

shifted_into : (s : ControlState) → record s { pending = s.pending ++ []; frameset_ok = s.frameset_ok && not false; next = s.next + 0 } ≡ s
shifted_into s =
    ap (λ p. record s { pending = p; frameset_ok = s.frameset_ok && not false; next = s.next + 0 }) (append-nil s.pending)
    ∙ (ap (λ b. record s { frameset_ok = b; next = s.next + 0 }) (and_still s.frameset_ok)
    ∙ ap (λ n. record s { next = n }) (let z : s.next + 0 ≡ s.next = omega arith in z))
  where
    and_still : (b : Bool) → (b && not false) ≡ b
    and_still true = refl
    and_still false = refl

open_there : (es : List OpenElement) (next : ℕ) → is_rooted es ≡ true → AreIds 0 next (map (λ e. e.id) es) → (0 < length es) × (0 < next)
open_there [] next h ids = absurd (cc)
open_there (e ∷ es) next h ids = (omega arith, omega (arith, ids.0, ids.1))

abbrev pub IsResting : Answer → Type 0
IsResting (answer.Resting r cr m o lf) = Unit {0}
IsResting _ = ⊥

-- what a state in which the lexer is at rest tells is where a view over it begins
pub record StartsOver (s : ControlState) (v : Split) : Type 0 where
  pub same : state_over v s ≡ s
  pub stands : StandsOn s v

begins_by : (s : ControlState) (o : Option Rest) → rest_of s.lex.machine.state ≡ o → IsValid s → IsResting (entry_answer s.lex.machine.after_cr s.mode s.original s.skip_lf o) → state_over (begins (entry_answer s.lex.machine.after_cr s.mode s.original s.skip_lf o)) s ≡ s
begins_by s None e h rests = absurd rests
begins_by s (Some r) e h rests = ap (λ l. record s { lex = l; pending = s.pending ++ []; frameset_ok = s.frameset_ok && not false; next = s.next + 0 }) (lexer_again r s.lex (rest_back s.lex.machine.state r e) h.lex) ∙ shifted_into s

-- a view that begins over a state is that state
pub begins_same : (s : ControlState) → IsValid s → IsResting (answer_of s ask.Entry) → state_over (begins (answer_of s ask.Entry)) s ≡ s
begins_same s h rests = begins_by s (rest_of s.lex.machine.state) refl h rests

stands_by : (s : ControlState) (o : Option Rest) → IsOlder s → is_rooted s.stack ≡ true → IsResting (entry_answer s.lex.machine.after_cr s.mode s.original s.skip_lf o) → StandsOn s (begins (entry_answer s.lex.machine.after_cr s.mode s.original s.skip_lf o))
stands_by s None older root rests = absurd rests
stands_by s (Some r) older root rests =
    let there = open_there s.stack s.next root older.stack_ids in
    record { older = older; text = refl; base = record { rooted = root; left = there.0; made = there.1 } }

pub starts_over : (s : ControlState) → IsValid s → IsOlder s → is_rooted s.stack ≡ true → IsResting (answer_of s ask.Entry) → StartsOver s (begins (answer_of s ask.Entry))
starts_over s h older root rests = record { same = begins_same s h rests; stands = stands_by s (rest_of s.lex.machine.state) older root rests }
