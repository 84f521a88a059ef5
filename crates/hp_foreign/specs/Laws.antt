-- Foreign content: each plan tells of a view, or does to it, what its test or act does of the whole state.
use Rattle.std.specs.Prelude.{◌≡◌, ℕ, zero, suc, Bool, true, false, not, ◌||◌, ◌&&◌, if◌then◌else◌, List, [], ◌∷◌, ◌++◌, Some, None, Result, Ok, map, drop, refl, slice_get}
use Rattle.std.specs.Option.{is_some}
use Rattle.std.proofs.Common.{sym, subst, ap, ◌∙◌}
use Rattle.hp_elements.specs.declared.kinds.Kinds.TheVariants as kinds
use Rattle.hp_elements.specs.declared.sets.Namespace.{Namespace}
use Rattle.hp_elements.specs.declared.tag.Tag.{Tag}
use Rattle.hp_elements.specs.declared.token.Kind.{Kind}
use Rattle.hp_elements.specs.declared.token.Kind.TheVariants as kind
use Rattle.hp_control.specs.declared.edit.Child.TheVariants as child
use Rattle.hp_control.specs.declared.element.OpenElement.{OpenElement}
use Rattle.hp_control.specs.declared.question.Crossing.{Crossing}
use Rattle.hp_control.specs.Acts.{insert, pop}
use Rattle.hp_control.specs.Apply.{shifted}
use Rattle.hp_control.specs.Faithful.{Split, state_over, StandsOn, Matches, Faithful, FaithfulTest, faithful_then, faithful_nothing}
use Rattle.hp_control.specs.Foreign.{enters, is_annotation, is_end_of_input, is_foreign, is_svg_start, opened_namespace, tag_in, insert_in, insert_foreign, current_namespace, insert_as_current, pop_to_point, names_foreign, through_foreign, replaced, put_replacements}
use Rattle.hp_control.specs.Outcome.{nothing_done}
use Rattle.hp_control.specs.Plan.{end_by}
use Rattle.hp_control.specs.Running.{on_end, end_then}
use Rattle.hp_control.specs.States.{ControlState, is_html}
use Rattle.hp_control.specs.Truth.{answer_of, element_answer}
use Rattle.hp_control.specs.Walks.{seen}
use Rattle.hp_views.specs.declared.walks.Walk.{Walk}
use Rattle.hp_views.specs.declared.walks.Walk.TheVariants.{Found, Stopped, PastAll}
use Rattle.hp_views.specs.InsertLaws.{insert_faithful, put_faithful}
use Rattle.hp_views.specs.OwnWalks.{seen_by, seen_own}
use Rattle.hp_views.specs.PlacePlans.{insert_plan}
use Rattle.hp_views.specs.PopLaws.{pop_faithful, pop_to_faithful, through_faithful}
use Rattle.hp_views.specs.Reading.{yes_read, depth_read}
use Rattle.hp_views.specs.StackLaws.{full_stack}
use Rattle.hp_views.specs.Walks.{walk_of}
use Rattle.hp_foreign.specs.Plans.{element_in, foreign_one, unless_html, older_goes, goes_on, goes_plan, names_on, names_plan, namespace_in, namespace_on, namespace_plan, pop_where_plan, insert_in_plan, insert_foreign_plan, in_namespace, insert_as_current_plan, pop_to_point_plan, through_foreign_plan, put_replacements_plan}

-- the current node of what is left
first_left : (n : ℕ) (es : List OpenElement) → slice_get es n ≡ slice_get (drop n es) 0
first_left zero es = refl
first_left (suc n) [] = refl
first_left (suc n) (e ∷ es) = first_left n es

-- no HTML element is a foreign node
html_way : (ended html entering opening : Bool) → (if is_some {T = ℕ} (if html then Some 0 else None) then false else not (ended || html || entering || opening)) ≡ not (ended || html || entering || opening)
html_way true true entering opening = refl
html_way false true entering opening = refl
html_way ended false entering opening = refl

first_way : (token : Kind) (es : List OpenElement) → (if seen kinds.AnyHtml kinds.All es then false else foreign_one token (element_in (element_answer (slice_get es 0)))) ≡ is_foreign token es
first_way token [] = refl
first_way token (e ∷ es) = html_way (is_end_of_input token) (is_html e) (enters e.point token) (is_annotation e && is_svg_start token)

unless_way : (s : ControlState) (token : Kind) (depth : ℕ) (html : Bool) → end_by (answer_of s) (unless_html token depth html) ≡ Ok (if html then false else foreign_one token (element_in (element_answer (slice_get s.stack depth))))
unless_way s token depth true = refl
unless_way s token depth false = refl

older_way : (s : ControlState) (token : Kind) (v : Split) → end_by (answer_of s) (older_goes token v) ≡ Ok (is_foreign token (drop v.change.popped s.stack))
older_way s token v =
    let html = seen kinds.AnyHtml kinds.All (drop v.change.popped s.stack) in
    ap (λ b. end_by (answer_of s) (unless_html token v.change.popped b)) (yes_read html)
    ∙ (unless_way s token v.change.popped html
    ∙ (ap (λ o. Ok (if html then false else foreign_one token (element_in (element_answer o)))) (first_left v.change.popped s.stack)
    ∙ ap Ok (first_way token (drop v.change.popped s.stack))))

-- the end of input goes to no foreign content
ended_way : (es : List OpenElement) → false ≡ is_foreign kind.EndOfInput es
ended_way [] = refl
ended_way (e ∷ es) = refl

none_way : (s : ControlState) (token : Kind) (v : Split) → end_by (answer_of s) (goes_on token v []) ≡ Ok (is_foreign token (drop v.change.popped s.stack))
none_way s (kind.Characters class) v = older_way s (kind.Characters class) v
none_way s kind.Comment v = older_way s kind.Comment v
none_way s kind.Doctype v = older_way s kind.Doctype v
none_way s (kind.Start name) v = older_way s (kind.Start name) v
none_way s (kind.End name) v = older_way s (kind.End name) v
none_way s kind.EndOfInput v = ap Ok (ended_way (drop v.change.popped s.stack))

goes_way : (s : ControlState) (token : Kind) (v : Split) (es : List OpenElement) → end_by (answer_of s) (goes_on token v es) ≡ Ok (is_foreign token (map (shifted s.next) es ++ drop v.change.popped s.stack))
goes_way s token v [] = none_way s token v
goes_way s token v (e ∷ es) = refl

abbrev pub goes_to_foreign : Kind → ControlState → Bool
goes_to_foreign token c = is_foreign token c.stack

pub goes_faithful : (token : Kind) → FaithfulTest (goes_plan token) (goes_to_foreign token)
goes_faithful token = λ s v st. goes_way s token v v.change.stack ∙ ap (λ l. Ok (is_foreign token l)) (sym (full_stack s v))

-- foreign elements of a name
names_way : (s : ControlState) (name : List ℕ) (v : Split) (w : Walk) → StandsOn s v → end_by (answer_of s) (names_on name v.change.popped w) ≡ Ok (seen_by w (seen (kinds.Foreign name) kinds.AnyHtml (drop v.change.popped s.stack)))
names_way s name v (Found k) st = refl
names_way s name v Stopped st = refl
names_way s name v PastAll st = ap (λ o. Ok (is_some o)) (depth_read (kinds.Foreign name) kinds.AnyHtml s.stack v.change.popped st.older.short)

pub names_faithful : (name : List ℕ) → FaithfulTest (names_plan name) (names_foreign name)
names_faithful name = λ s v st.
    names_way s name v (walk_of (kinds.Foreign name) kinds.AnyHtml v.change.stack) st
    ∙ ap Ok (sym (ap (seen (kinds.Foreign name) kinds.AnyHtml) (full_stack s v) ∙ seen_own s.next (kinds.Foreign name) kinds.AnyHtml v.change.stack (drop v.change.popped s.stack)))

-- the namespace of the current node
first_space : (es : List OpenElement) → namespace_in (element_in (element_answer (slice_get es 0))) ≡ current_namespace es
first_space [] = refl
first_space (e ∷ es) = refl

space_way : (s : ControlState) (v : Split) (es : List OpenElement) → end_by (answer_of s) (namespace_on v es) ≡ Ok (current_namespace (map (shifted s.next) es ++ drop v.change.popped s.stack))
space_way s v [] =
    ap (λ o. Ok (namespace_in (element_in (element_answer o)))) (first_left v.change.popped s.stack)
    ∙ ap Ok (first_space (drop v.change.popped s.stack))
space_way s v (e ∷ es) = refl

space_told : (s : ControlState) (v : Split) → end_by (answer_of s) (namespace_plan v) ≡ Ok (current_namespace (state_over v s).stack)
space_told s v = space_way s v v.change.stack ∙ ap (λ l. Ok (current_namespace l)) (sym (full_stack s v))

-- elements of a namespace
pop_where_faithful : (self_closing : Bool) → Faithful (pop_where_plan self_closing) (if self_closing then pop else nothing_done)
pop_where_faithful true = pop_faithful
pop_where_faithful false = faithful_nothing

insert_in_faithful : (space : Namespace) (fostering self_closing : Bool) (tag : Tag) → Faithful (insert_in_plan space fostering self_closing tag) (insert_in space fostering self_closing tag)
insert_in_faithful space fostering self_closing tag =
    faithful_then (insert_plan fostering (tag_in space tag)) (pop_where_plan self_closing) (insert fostering (tag_in space tag)) (if self_closing then pop else nothing_done)
    (insert_faithful fostering (tag_in space tag)) (pop_where_faithful self_closing)

pub insert_foreign_faithful : (fostering self_closing : Bool) (tag : Tag) → Faithful (insert_foreign_plan fostering self_closing tag) (insert_foreign fostering self_closing tag)
insert_foreign_faithful fostering self_closing tag = insert_in_faithful (opened_namespace tag.name) fostering self_closing tag

pub insert_as_current_faithful : (fostering self_closing : Bool) (tag : Tag) → Faithful (insert_as_current_plan fostering self_closing tag) (insert_as_current fostering self_closing tag)
insert_as_current_faithful fostering self_closing tag = λ s v st fit u.
    let P : Result Split Crossing → Type 0 = λ e. Matches s v e (insert_as_current fostering self_closing tag (state_over v s)) in
    subst P (sym (end_then (answer_of s) (namespace_plan v) (in_namespace fostering self_closing tag v)
    ∙ ap (λ e. on_end e (λ space. end_by (answer_of s) (in_namespace fostering self_closing tag v space))) (space_told s v)))
    (insert_in_faithful (current_namespace (state_over v s).stack) fostering self_closing tag s v st fit u)

pub pop_to_point_faithful : Faithful pop_to_point_plan pop_to_point
pop_to_point_faithful = pop_to_faithful kinds.HtmlOrPoint

pub through_foreign_faithful : (name : List ℕ) → Faithful (through_foreign_plan name) (through_foreign name)
through_foreign_faithful name = through_faithful (kinds.Foreign name) kinds.AnyHtml

pub put_replacements_faithful : (fostering : Bool) (text : List ℕ) → Faithful (put_replacements_plan fostering text) (put_replacements fostering text)
put_replacements_faithful fostering text = put_faithful fostering (child.Text (replaced text)) tt
