-- The head element, on the stack again and off it: each plan does to a view what its act does to the whole state.
use Rattle.std.specs.Prelude.{◌≡◌, ℕ, ◌+◌, Bool, false, ◌||◌, if◌then◌else◌, List, ◌∷◌, Option, Some, None, refl, Result, Ok, Err}
use Rattle.std.specs.Option.{is_some}
use Rattle.std.proofs.Common.{sym, subst, ap, ◌∙◌, arith}
use Rattle.std.proofs.Math.Bool.{or-true}
use Rattle.hp_control.specs.declared.change.Change.{Change}
use Rattle.hp_control.specs.declared.edit.Edit.{Edit}
use Rattle.hp_control.specs.declared.question.Crossing.{Crossing}
use Rattle.hp_control.specs.declared.question.Crossing.TheVariants.{X4}
use Rattle.hp_control.specs.States.{ControlState}
use Rattle.hp_control.specs.Nothing.{nothing}
use Rattle.hp_control.specs.Walks.{open_at}
use Rattle.hp_control.specs.Truth.{answer_of}
use Rattle.hp_control.specs.Apply.{applied, shifted}
use Rattle.hp_control.specs.Outcome.{Outcome, Touch, becomes, is_older, is_touch, touches}
use Rattle.hp_control.specs.Acts.{head_element, headed, touching, push_head_of, push_head, take_off, take_head_off_of, take_head_off, with_stack}
use Rattle.hp_control.specs.Faithful.{Page, Split, state_over, StandsOn, IsDone, Matches, Faithful}
use Rattle.hp_control.specs.Plan.{end_by}
use Rattle.hp_views.specs.declared.walks.Walk.{Walk}
use Rattle.hp_views.specs.declared.walks.Walk.TheVariants.{Found, Stopped, PastAll}
use Rattle.hp_views.specs.FieldPlans.{with_change}
use Rattle.hp_views.specs.HeadPlans.{with_head, push_on, push_plan_of, push_head_on, push_head_plan, take_head_on, take_head_plan, push_head_of as push_plan_if, take_head_of as take_plan_if}
use Rattle.hp_views.specs.OwnIds.{found_at}
use Rattle.hp_views.specs.PopLaws.{nothing_popped}
use Rattle.hp_views.specs.Quiet.{view, quiet, own_touch, page_there, none_there}
use Rattle.hp_views.specs.RemoveLaws.{full_open, take_off_faithful}
use Rattle.hp_views.specs.RemovePlans.{take_off_plan}
use Rattle.hp_views.specs.Walks.{id_walk}

-- without an older state ids are those of the page
same_id : (s : ControlState) (id : ℕ) → s ≡ nothing → s.next + id ≡ id
same_id s id e = ap (λ (t : ControlState). t.next + id) e ∙ omega arith

abbrev pushed_if : ℕ → Bool → ControlState → Outcome
pushed_if id there c = if there then becomes c else with_stack (head_element id ∷ c.stack) c

shifted_head : (s : ControlState) (id : ℕ) → s ≡ nothing → shifted s.next (head_element id) ≡ head_element id
shifted_head s id e = ap head_element (same_id s id e)

pushed_now : (s : ControlState) (v : Split) (id : ℕ) → StandsOn s v → s ≡ nothing → IsDone s v (with_change (with_head id v.change) v) (with_stack (head_element id ∷ (state_over v s).stack) (state_over v s))
pushed_now s v id st e = quiet s v (with_head id v.change) (λ c. record c { stack = head_element id ∷ c.stack }) st refl (λ p c. refl) (ap (λ x. record (applied v.change s) { stack = x ∷ (applied v.change s).stack }) (shifted_head s id e))

push_way : (s : ControlState) (v : Split) (id : ℕ) (w : Walk) → StandsOn s v → s ≡ nothing → Matches s v (end_by (answer_of s) (push_on id v w)) (pushed_if id (is_some (found_at w)) (state_over v s))
push_way s v id (Found k) st e = nothing_popped s v st
push_way s v id Stopped st e = pushed_now s v id st e
push_way s v id PastAll st e = pushed_now s v id st e

push_of : (s : ControlState) (v : Split) (id : ℕ) → StandsOn s v → s ≡ nothing → Matches s v (end_by (answer_of s) (push_plan_of id v)) (push_head_of (Some id) (state_over v s))
push_of s v id st e =
    let P : Bool → Type 0 = λ b. Matches s v (end_by (answer_of s) (push_plan_of id v)) (pushed_if id b (state_over v s)) in
    subst P (sym (ap is_some (ap (λ i. open_at i (state_over v s).stack) (sym (same_id s id e)) ∙ full_open s v id st))) (push_way s v id (id_walk id v.change.stack) st e)

push_if : (s : ControlState) (v : Split) (o : Option ℕ) → StandsOn s v → s ≡ nothing → Matches s v (end_by (answer_of s) (push_plan_if o v)) (push_head_of o (state_over v s))
push_if s v None st e = nothing_popped s v st
push_if s v (Some id) st e = push_of s v id st e

-- what is the view's own is touched as well
pub touching_own : (s : ControlState) (v : Split) (t : Touch) (o : Outcome) (e : Result Split Crossing) → is_older s t ≡ false → Matches s v e o → Matches s v e (touching t o)
touching_own s v t o (Ok w) h m = own_touch s v w t o h m
touching_own s v t o (Err crossing) h m = ap (λ b. is_touch s crossing t || b) m ∙ or-true (is_touch s crossing t)

push_head_way : (s : ControlState) (c : Change) (edits : List Edit) (text : Bool) (page : Option Page) → StandsOn s (view c edits text page) → Matches s (view c edits text page) (end_by (answer_of s) (push_head_on page (view c edits text page))) (push_head (state_over (view c edits text page) s))
push_head_way s c edits text None st = ap (λ b. b || touches s X4 (push_head_of s.head (applied c s))) (page_there c s st.base)
push_head_way s c edits text (Some p) st =
    let v = view c edits text (Some p) in
    touching_own s v headed (push_head_of p.head (state_over v s)) (end_by (answer_of s) (push_plan_if p.head v)) (none_there s st.base) (push_if s v p.head st st.base)

pub push_head_faithful : Faithful push_head_plan push_head
push_head_faithful = λ s v st fit u. push_head_way s v.change v.edits v.older_text v.page st

take_if : (s : ControlState) (c : Change) (edits : List Edit) (text : Bool) (p : Page) (o : Option ℕ) → let v = view c edits text (Some p) in StandsOn s v → Matches s v (end_by (answer_of s) (take_plan_if o v)) (take_head_off_of o (state_over v s))
take_if s c edits text p None st = nothing_popped s (view c edits text (Some p)) st
take_if s c edits text p (Some id) st =
    let v = view c edits text (Some p) in
    let P : ℕ → Type 0 = λ i. Matches s v (end_by (answer_of s) (take_off_plan id v)) (take_off i (state_over v s)) in
    subst P (same_id s id st.base) (take_off_faithful id s v st tt)

take_head_way : (s : ControlState) (c : Change) (edits : List Edit) (text : Bool) (page : Option Page) → StandsOn s (view c edits text page) → Matches s (view c edits text page) (end_by (answer_of s) (take_head_on page (view c edits text page))) (take_head_off (state_over (view c edits text page) s))
take_head_way s c edits text None st = ap (λ b. b || touches s X4 (take_head_off_of s.head (applied c s))) (page_there c s st.base)
take_head_way s c edits text (Some p) st =
    let v = view c edits text (Some p) in
    touching_own s v headed (take_head_off_of p.head (state_over v s)) (end_by (answer_of s) (take_plan_if p.head v)) (none_there s st.base) (take_if s c edits text p p.head st)

pub take_head_off_faithful : Faithful take_head_plan take_head_off
take_head_off_faithful = λ s v st fit u. take_head_way s v.change v.edits v.older_text v.page st
