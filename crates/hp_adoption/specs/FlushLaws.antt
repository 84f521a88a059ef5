-- Pending table characters: the plan of their flush does to a view what putting them as one text does to the whole state.
use Rattle.std.specs.Prelude.{◌≡◌, ℕ, Bool, true, false, ◌||◌, List, [], ◌∷◌, ◌++◌, if◌then◌else◌, Option, Some, None, refl}
use Rattle.std.specs.List.{list_all}
use Rattle.std.proofs.Common.{sym, subst, ap, ◌∙◌}
use Rattle.hp_elements.specs.declared.token.Mode.{Mode}
use Rattle.hp_elements.specs.declared.token.Mode.TheVariants as mode
use Rattle.hp_control.specs.declared.edit.Child.TheVariants as child
use Rattle.hp_control.specs.declared.question.Crossing.TheVariants.{X7}
use Rattle.hp_control.specs.States.{ControlState, PendingFits}
use Rattle.hp_control.specs.Truth.{answer_of}
use Rattle.hp_control.specs.Apply.{applied}
use Rattle.hp_control.specs.Outcome.{Outcome, is_table_text, touches, and_then}
use Rattle.hp_control.specs.Acts.{put_here, frameset_not_ok, empty_pending}
use Rattle.hp_control.specs.Adoption.{reconstruct}
use Rattle.hp_control.specs.Composed.{is_white}
use Rattle.hp_control.specs.Faithful.{Page, Split, state_over, StandsOn, IsSaid, Matches, Faithful, faithful_then, faithful_nothing, touches_after}
use Rattle.hp_control.specs.Plan.{gives, crosses, followed_by, end_by}
use Rattle.hp_views.specs.FieldLaws.{frameset_faithful, empty_pending_faithful}
use Rattle.hp_views.specs.FieldPlans.{with_change, with_pending, frameset_plan}
use Rattle.hp_views.specs.InsertLaws.{put_faithful}
use Rattle.hp_views.specs.PlacePlans.{put_plan}
use Rattle.hp_views.specs.Quiet.{paged_part}
use Rattle.hp_adoption.specs.Following.{matches_then}
use Rattle.hp_adoption.specs.FlushActs.{whole_by, put_whole, flush_at_once}
use Rattle.hp_adoption.specs.FlushPlans.{flush_by, flush_text, flush_on, flush_plan}
use Rattle.hp_adoption.specs.ReconLaws.{reconstruct_faithful}
use Rattle.hp_adoption.specs.ReconPlans.{reconstruct_plan}

by_faithful : (text : List ℕ) (white : Bool) → Faithful (λ v. flush_by text v white) (whole_by text white)
by_faithful text true = put_faithful false (child.Text text) tt
by_faithful text false =
    faithful_then (reconstruct_plan true) (λ w. followed_by (put_plan true (child.Text text) w) frameset_plan)
    (reconstruct true) (and_then (put_here true (child.Text text)) frameset_not_ok) (reconstruct_faithful true)
    (faithful_then (put_plan true (child.Text text)) frameset_plan (put_here true (child.Text text)) frameset_not_ok (put_faithful true (child.Text text) tt) frameset_faithful)

text_faithful : (text : List ℕ) → Faithful (flush_text text) (put_whole text)
text_faithful [] = faithful_nothing
text_faithful (c ∷ cs) = by_faithful (c ∷ cs) (list_all is_white (c ∷ cs))

none_pending : (m : Mode) (text : List ℕ) → PendingFits m text → is_table_text m ≡ false → text ≡ []
none_pending mode.InTableText text h e = absurd (cc)
none_pending _ text h e = h

-- where the chunk did not begin among pending characters, they are the view's own
own_pending : (s : ControlState) (v : Split) → StandsOn s v → v.older_text ≡ false → (state_over v s).pending ≡ v.change.pending
own_pending s v st e =
    paged_part v.page (λ c. c.pending) (applied v.change s) (λ p c. refl)
    ∙ ap (λ l. l ++ v.change.pending) (none_pending s.mode s.pending st.older.pending (sym st.text ∙ e))

abbrev emptied_first : List ℕ → ControlState → Outcome
emptied_first text c = and_then empty_pending (put_whole text) c

said_emptied : (page : Option Page) (c : ControlState) → IsSaid page (empty_pending c)
said_emptied None c = refl
said_emptied (Some p) c = tt

emptied_way : (s : ControlState) (v : Split) → StandsOn s v → v.older_text ≡ false → Matches s v (end_by (answer_of s) (gives (with_change (with_pending [] v.change) v))) (empty_pending (state_over v s))
emptied_way s v st e =
    let P : Bool → Type 0 = λ b. Matches s v (end_by (answer_of s) (if b then crosses X7 else gives (with_change (with_pending [] v.change) v))) (empty_pending (state_over v s)) in
    subst P e (empty_pending_faithful s v st refl (said_emptied v.page (state_over v s)))

flush_way : (s : ControlState) (v : Split) (older : Bool) → v.older_text ≡ older → StandsOn s v → IsSaid v.page (flush_at_once (state_over v s)) → Matches s v (end_by (answer_of s) (flush_on v older)) (flush_at_once (state_over v s))
flush_way s v true e st u =
    let c = state_over v s in
    let second = put_whole c.pending (empty_pending c).control in
    touches_after s X7 (empty_pending c) second
    ∙ ap (λ t. t || touches s X7 second) (ap (λ b. b || false) (sym st.text ∙ e))
flush_way s v false e st u =
    let c = state_over v s in
    let w = with_change (with_pending [] v.change) v in
    let P : List ℕ → Type 0 = λ text. IsSaid v.page (emptied_first text c) → Matches s v (end_by (answer_of s) (flush_text v.change.pending w)) (emptied_first text c) in
    subst P (sym (own_pending s v st e))
    (λ m. matches_then s v (gives w) (flush_text v.change.pending) empty_pending (put_whole v.change.pending) st m (emptied_way s v st e)
    (λ x is d t. text_faithful v.change.pending s x d.stands refl t)) u

pub flush_faithful : Faithful flush_plan flush_at_once
flush_faithful = λ s v st fit u. flush_way s v v.older_text refl st u
