-- What the rules test of the stack and of the other facts: what a plan finds out is what holds of the whole state.
use Rattle.std.specs.Prelude.{◌≡◌, ℕ, ◌+◌, Bool, true, false, not, ◌&&◌, ◌||◌, if◌then◌else◌, List, [], ◌∷◌, ◌++◌, Option, Some, None, Ok, map, drop, refl, slice_get}
use Rattle.std.specs.Option.{is_some}
use Rattle.std.specs.List.{list_any}
use Rattle.std.specs.Str.{bytes_eq}
use Rattle.std.proofs.Common.{sym, ap, ◌∙◌}
use Rattle.std.proofs.lemmas.List.{drop-drop}
use Rattle.std.proofs.lemmas.Slice.Eq.{bytes_eq-Decides}
use Rattle.hp_elements.specs.Names.{text_of}
use Rattle.hp_elements.specs.Kinds.{is_html as is_html_space}
use Rattle.hp_elements.specs.declared.act.Scope.{Scope}
use Rattle.hp_elements.specs.declared.kinds.Kinds.{Kinds}
use Rattle.hp_elements.specs.declared.kinds.Kinds.TheVariants as kinds
use Rattle.hp_elements.specs.declared.known.Known.{Known}
use Rattle.hp_elements.specs.KnownNames as known
use Rattle.hp_control.specs.declared.change.Change.{Change}
use Rattle.hp_control.specs.declared.change.FormChange.{FormChange}
use Rattle.hp_control.specs.declared.change.FormChange.TheVariants as form
use Rattle.hp_control.specs.declared.edit.Edit.{Edit}
use Rattle.hp_control.specs.declared.element.OpenElement.{OpenElement}
use Rattle.hp_control.specs.KindTests.{within}
use Rattle.hp_control.specs.States.{ControlState, is_named, is_template}
use Rattle.hp_control.specs.Walks.{seen}
use Rattle.hp_control.specs.Truth.{answer_of}
use Rattle.hp_control.specs.Apply.{applied, shifted, form_after}
use Rattle.hp_control.specs.Composed.{ends_of, in_scope, template_in_stack, is_frameset_ok, is_quirks, has_form, is_one, current_is, below_is}
use Rattle.hp_control.specs.Faithful.{Page, Split, state_over, with_page, StandsOn, FaithfulTest}
use Rattle.hp_control.specs.Plan.{end_by}
use Rattle.hp_views.specs.declared.walks.Walk.{Walk}
use Rattle.hp_views.specs.declared.walks.Walk.TheVariants.{Found, Stopped, PastAll}
use Rattle.hp_views.specs.OwnWalks.{seen_by, seen_own}
use Rattle.hp_views.specs.Quiet.{paged_part, view}
use Rattle.hp_views.specs.Reading.{yes_read, form_read}
use Rattle.hp_views.specs.StackPlans.{seen_on, seen_plan, in_scope_plan, current_on, current_is_plan, below_on, below_is_plan, template_on, template_plan, ok_on, frameset_ok_plan, is_quirks_on, is_quirks_plan, form_on, has_form_plan}
use Rattle.hp_views.specs.Walks.{walk_of, deeper}

-- the stack of the whole state
pub full_stack : (s : ControlState) (v : Split) → (state_over v s).stack ≡ map (shifted s.next) v.change.stack ++ drop v.change.popped s.stack
full_stack s v = paged_part v.page (λ c. c.stack) (applied v.change s) (λ p c. refl)

-- whether a goal stands above each stop
abbrev pub seen_in : Kinds → Kinds → ControlState → Bool
seen_in goals stops c = seen goals stops c.stack

pub seen_way : (s : ControlState) (goals stops : Kinds) (popped : ℕ) (w : Walk) → end_by (answer_of s) (seen_on popped goals stops w) ≡ Ok (seen_by w (seen goals stops (drop popped s.stack)))
seen_way s goals stops popped (Found k) = refl
seen_way s goals stops popped Stopped = refl
seen_way s goals stops popped PastAll = ap Ok (yes_read (seen goals stops (drop popped s.stack)))

pub seen_faithful : (goals stops : Kinds) → FaithfulTest (seen_plan goals stops) (seen_in goals stops)
seen_faithful goals stops = λ s v st.
    seen_way s goals stops v.change.popped (walk_of goals stops v.change.stack)
    ∙ ap Ok (sym (ap (seen goals stops) (full_stack s v) ∙ seen_own s.next goals stops v.change.stack (drop v.change.popped s.stack)))

pub in_scope_faithful : (where_ : Scope) (goals : Kinds) → FaithfulTest (in_scope_plan where_ goals) (in_scope where_ goals)
in_scope_faithful where_ goals = seen_faithful goals (kinds.Set (ends_of where_))

-- the current node, and the one below it
seen_first : (b : Bool) (o : Option ℕ) → is_some o ≡ false → is_some (if b then Some 0 else o) ≡ b
seen_first true o h = refl
seen_first false o h = h

pub first_seen : (goals : Kinds) (es : List OpenElement) → seen goals kinds.All es ≡ is_one goals (slice_get es 0)
first_seen goals [] = refl
first_seen goals (e ∷ es) = seen_first (within goals e) None refl

current_way : (s : ControlState) (goals : Kinds) (popped : ℕ) (es : List OpenElement) → end_by (answer_of s) (current_on popped goals es) ≡ Ok (is_one goals (slice_get (map (shifted s.next) es ++ drop popped s.stack) 0))
current_way s goals popped [] = ap Ok (yes_read (seen goals kinds.All (drop popped s.stack)) ∙ first_seen goals (drop popped s.stack))
current_way s goals popped (e ∷ es) = refl

pub current_faithful : (goals : Kinds) → FaithfulTest (current_is_plan goals) (current_is goals)
current_faithful goals = λ s v st. current_way s goals v.change.popped v.change.stack ∙ ap Ok (sym (ap (λ l. is_one goals (slice_get l 0)) (full_stack s v)))

second_get : (es : List OpenElement) → slice_get (drop 1 es) 0 ≡ slice_get es 1
second_get [] = refl
second_get (e ∷ es) = refl

below_way : (s : ControlState) (goals : Kinds) (popped : ℕ) (es : List OpenElement) → end_by (answer_of s) (below_on popped goals es) ≡ Ok (is_one goals (slice_get (map (shifted s.next) es ++ drop popped s.stack) 1))
below_way s goals popped [] =
    ap Ok (yes_read (seen goals kinds.All (drop (popped + 1) s.stack))
    ∙ (first_seen goals (drop (popped + 1) s.stack)
    ∙ (ap (λ l. is_one goals (slice_get l 0)) (sym (drop-drop 1 popped s.stack))
    ∙ ap (is_one goals) (second_get (drop popped s.stack)))))
below_way s goals popped (e ∷ es) = current_way s goals popped es

pub below_faithful : (goals : Kinds) → FaithfulTest (below_is_plan goals) (below_is goals)
below_faithful goals = λ s v st. below_way s goals v.change.popped v.change.stack ∙ ap Ok (sym (ap (λ l. is_one goals (slice_get l 1)) (full_stack s v)))

-- templates
abbrev pub any_template : Kinds
any_template = kinds.Html (text_of known.Template)

abbrev pub template_by : Walk → Bool → Bool
template_by (Found k) below = true
template_by Stopped below = below
template_by PastAll below = below

template_deeper : (w : Walk) (b : Bool) → template_by w b ≡ template_by (deeper 1 w) b
template_deeper (Found k) b = refl
template_deeper Stopped b = refl
template_deeper PastAll b = refl

both_or_none : (a b : Bool) → (a ≡ true → b ≡ true) → (b ≡ true → a ≡ true) → a ≡ b
both_or_none true b h k = sym (h refl)
both_or_none false true h k = k refl
both_or_none false false h k = refl

same_way : (xs ys : List ℕ) → bytes_eq xs ys ≡ bytes_eq ys xs
same_way xs ys =
    let d = bytes_eq-Decides xs ys in
    let e = bytes_eq-Decides ys xs in
    both_or_none (bytes_eq xs ys) (bytes_eq ys xs) (λ h. e.1 (sym (d.0 h))) (λ h. d.1 (sym (e.0 h)))

-- the HTML element of a name
pub named_kind : (name : Known) (e : OpenElement) → is_named name e ≡ within (kinds.Html (text_of name)) e
named_kind name e = ap (λ b. is_html_space e.namespace && b) (same_way e.name (text_of name))

template_kind : (e : OpenElement) → is_template e ≡ within any_template e
template_kind e = named_kind known.Template e

pub template_own : (n : ℕ) (xs ys : List OpenElement) → list_any is_template (map (shifted n) xs ++ ys) ≡ template_by (walk_of any_template kinds.Nothing xs) (list_any is_template ys)
template_own n [] ys = refl
template_own n (x ∷ xs) ys =
    ap (λ b. b || list_any is_template (map (shifted n) xs ++ ys)) (template_kind (shifted n x))
    ∙ elim (within any_template x) as (λ b. (b || list_any is_template (map (shifted n) xs ++ ys)) ≡ template_by (if b then Found 0 else deeper 1 (walk_of any_template kinds.Nothing xs)) (list_any is_template ys)) [
      | true ↦ refl
      | false ↦ template_own n xs ys ∙ template_deeper (walk_of any_template kinds.Nothing xs) (list_any is_template ys)
    ]

template_way : (s : ControlState) (popped : ℕ) (w : Walk) → end_by (answer_of s) (template_on popped w) ≡ Ok (template_by w (list_any is_template (drop popped s.stack)))
template_way s popped (Found k) = refl
template_way s popped Stopped = ap Ok (yes_read (list_any is_template (drop popped s.stack)))
template_way s popped PastAll = ap Ok (yes_read (list_any is_template (drop popped s.stack)))

pub template_faithful : FaithfulTest template_plan template_in_stack
template_faithful = λ s v st.
    template_way s v.change.popped (walk_of any_template kinds.Nothing v.change.stack)
    ∙ ap Ok (sym (ap (list_any is_template) (full_stack s v) ∙ template_own s.next v.change.stack (drop v.change.popped s.stack)))

-- a frameset
and_false : (b : Bool) → false ≡ (b && not true)
and_false true = refl
and_false false = refl

and_true : (b : Bool) → b ≡ (b && not false)
and_true true = refl
and_true false = refl

ok_way : (s : ControlState) (c : Change) (edits : List Edit) (text : Bool) (page : Option Page) (off : Bool) → StandsOn s (view c edits text page) → end_by (answer_of s) (ok_on page off c.popped) ≡ Ok (s.frameset_ok && not off)
ok_way s c edits text page true st = ap Ok (and_false s.frameset_ok)
ok_way s c edits text None false st = ap Ok (and_true s.frameset_ok)
ok_way s c edits text (Some p) false st = ap Ok (sym (ap (λ (t : ControlState). t.frameset_ok && not false) st.base))

pub frameset_ok_faithful : FaithfulTest frameset_ok_plan is_frameset_ok
frameset_ok_faithful = λ s v st.
    ok_way s v.change v.edits v.older_text v.page v.change.frameset_off st
    ∙ ap Ok (sym (paged_part v.page (λ c. c.frameset_ok) (applied v.change s) (λ p c. refl)))

quirks_way : (s : ControlState) (c : Change) (page : Option Page) → end_by (answer_of s) (is_quirks_on page) ≡ Ok (with_page page (applied c s)).quirks
quirks_way s c None = ap Ok (yes_read s.quirks)
quirks_way s c (Some p) = refl

pub is_quirks_faithful : FaithfulTest is_quirks_plan is_quirks
is_quirks_faithful = λ s v st. quirks_way s v.change v.page

form_way : (s : ControlState) (popped : ℕ) (f : FormChange) → end_by (answer_of s) (form_on popped f) ≡ Ok (is_some (form_after f s))
form_way s popped form.Kept = ap Ok (form_read popped s.form (drop popped s.stack))
form_way s popped form.Cleared = refl
form_way s popped (form.Own id) = refl

pub form_faithful : FaithfulTest has_form_plan has_form
form_faithful = λ s v st.
    form_way s v.change.popped v.change.form
    ∙ ap Ok (sym (ap is_some (paged_part v.page (λ c. c.form) (applied v.change s) (λ p c. refl))))
