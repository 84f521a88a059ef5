-- Over a known state a token is handled as the definition says, and nothing crosses.
use Rattle.std.proofs.Common.{◌≡◌, ℕ, ◌+◌, ◌*◌, ◌<◌, inl, inr, List, [], ◌∷◌, ◌++◌, length, Bool, true, false, ◌||◌, ◌&&◌, Option, None, Some, refl, sym, subst, ap, ◌∙◌, arith, length-append}
use Rattle.std.specs.Prelude.{if◌then◌else◌, Result, Ok, Err, drop, map, nat_lt, IsSome}
use Rattle.std.specs.Option.{is_some}
use Rattle.std.proofs.Math.Bool.{or-true}
use Rattle.std.proofs.lemmas.Bool.{lt-ltb, true≢false}
use Rattle.std.proofs.lemmas.List.{length-map}
use Rattle.hp_elements.specs.Tokens.{kind_of}
use Rattle.hp_elements.specs.declared.act.Act.{Act}
use Rattle.hp_elements.specs.declared.act.Act.TheVariants as act
use Rattle.hp_elements.specs.declared.act.Test.{Test}
use Rattle.hp_elements.specs.declared.act.Test.TheVariants as test
use Rattle.hp_elements.specs.declared.token.Kind.{Kind}
use Rattle.hp_elements.specs.declared.token.Token.{Token}
use Rattle.hp_elements.specs.declared.token.Token.TheVariants as token
use Rattle.hp_control.specs.declared.change.Change.{Change}
use Rattle.hp_control.specs.declared.change.Refusal.{Refusal}
use Rattle.hp_control.specs.declared.change.Refusal.TheVariants.{Crossed, NoMemory}
use Rattle.hp_control.specs.declared.element.OpenElement.{OpenElement}
use Rattle.hp_control.specs.declared.question.Crossing.{Crossing}
use Rattle.hp_control.specs.Apply.{shifted}
use Rattle.hp_control.specs.Faithful.{IsBase, IsSaid, Page, Split, StandsOn, state_over}
use Rattle.hp_control.specs.Nothing.{nothing}
use Rattle.hp_control.specs.Outcome.{Outcome}
use Rattle.hp_control.specs.Plan.{end_by}
use Rattle.hp_control.specs.States.{ControlState, IsValid, is_tall}
use Rattle.hp_control.specs.Steps.{nothing_touched}
use Rattle.hp_control.specs.Truth.{answer_of}
use Rattle.hp_views.specs.FieldLaws.{has_own}
use Rattle.hp_views.specs.Quiet.{drop_none}
use Rattle.hp_views.specs.ResetLaws.{is_kept_by}
use Rattle.hp_views.specs.SecondPlans.{own_modes}
use Rattle.hp_views.specs.StackLaws.{full_stack}
use Rattle.hp_views.specs.View.{Sight}
use Rattle.hp_model.specs.AtOnce.{after_first, handle_at_once}
use Rattle.hp_model.specs.Handling.{bound, settled}
use Rattle.hp_model.specs.Rows.{turn}
use Rattle.hp_model.specs.Steps.{holds, step}
use Rattle.hp_model.specs.Tokens.{is_line_feed}
use Rattle.hp_model.specs.Turns.{Handled as Meant, turns}
use Rattle.hp_model.specs.Whole.{IsRead}
use Rattle.hp_model.proofs.Course.{Course, Along, fits}
use Rattle.hp_model.proofs.Finding.{act_found}
use Rattle.hp_model.proofs.Handled.{turns-end}
use Rattle.hp_acts.specs.declared.turns.Handled.{Handled}
use Rattle.hp_acts.specs.ActLaws.{act_faithful, fits_of, step_at_once}
use Rattle.hp_acts.specs.HandlePlans.{handle_plan}
use Rattle.hp_acts.specs.Handling.{Handles}
use Rattle.hp_acts.specs.Known.{EndsWhole, HandlesKnown, IsHandledWhole, KnownHandled}
use Rattle.hp_acts.specs.Older.{EndsOver}
use Rattle.hp_acts.specs.Plans.{act_plan, by_plan, test_plan}
use Rattle.hp_acts.specs.RowPlans.{Reached}
use Rattle.hp_acts.specs.Suiting.{turns_suit}
use Rattle.hp_acts.specs.TestLaws.{sees, test_faithful}
use Rattle.hp_acts.proofs.ActMatches.{act_alike, by_its_plan, planned, read_html}
use Rattle.hp_acts.proofs.HandleMatches.{handled_over, rest_suits, settled_valid, suits_at_once}
use Rattle.hp_acts.proofs.Matching.{MatchesAlike, matches_alike}
use Rattle.hp_acts.proofs.RowMatches.{is_row_act}
use Rattle.hp_acts.proofs.SuitingAny.{any_act, any_test, turns_any}

-- a view over no older state has the page's facts
is_paged : (page : Option Page) (c : Change) → IsBase page c nothing → is_some page ≡ true
is_paged (Some page) c h = refl
is_paged None c h = let z : 0 < 0 = h.made in absurd (omega (arith, z))

all_said : (page : Option Page) (o : Outcome) → is_some page ≡ true → IsSaid page o
all_said (Some page) o h = tt
all_said None o h = absurd (true≢false (sym h))

-- where there is no older state, an element that isn't the first is an own one
own_stack : (es : List OpenElement) (k : ℕ) → is_tall (map (shifted 0) es ++ drop k []) ≡ true → nat_lt 0 (length es) ≡ true
own_stack (e ∷ es) k h = lt-ltb 0 (length (e ∷ es)) (omega arith)
own_stack [] k h = let z : true ≡ false = sym h ∙ ap is_tall (drop_none k) in absurd (true≢false z)

own_there : (d : Split) → is_tall (state_over d nothing).stack ≡ true → has_own d ≡ true
own_there d h = own_stack d.change.stack d.change.popped (sym (ap is_tall (full_stack nothing d)) ∙ h)

-- what an act reads of a view is there
fits_there : (kind : Kind) (a : Act) (v : Course) (n : ℕ) (d : Split) → StandsOn nothing d → Along v n (state_over d nothing) → fits kind a v ≡ true → fits_of a d ≡ true
fits_there kind act.FormPointer v n d st g h = own_there d (act_found kind act.FormPointer v n (state_over d nothing) g h)
fits_there kind act.AppendToList v n d st g h = own_there d (act_found kind act.AppendToList v n (state_over d nothing) g h)
fits_there kind act.Reset v n d st g h = kept d.page d.change st.base
  where
    kept : (page : Option Page) (c : Change) → IsBase page c nothing → is_kept_by page d.change.templates d.change.stack ≡ true
    kept (Some page) c b = refl
    kept None c b = let z : 0 < 0 = b.made in absurd (omega (arith, z))
fits_there kind _ v n d st g h = refl

sees_there : (x : Test) (d : Split) → StandsOn nothing d → sees x d ≡ true
sees_there test.HasTemplateModes d st = ap (λ b. own_modes d.change.templates || b) (is_paged d.page d.change st.base) ∙ or-true (own_modes d.change.templates)
sees_there _ d st = refl

acts_known : (t : Token) (n : ℕ) → IsRead t → (fostering : Bool) (a : Act) (v : Course) (d : Split) → StandsOn nothing d → Along v n (state_over d nothing) → fits (kind_of t) a v ≡ true → is_row_act a ≡ true → true ≡ true
    → MatchesAlike nothing d (end_by (answer_of nothing) (by_plan (act_plan fostering t a) d)) (step fostering t a (state_over d nothing))
acts_known t n read fostering a v d st g h r i =
    let c = state_over d nothing in
    act_alike nothing fostering t a c d (end_by (answer_of nothing) (by_plan (act_plan fostering t a) d))
    (matches_alike nothing d (end_by (answer_of nothing) (by_plan (act_plan fostering t a) d)) (step_at_once fostering t a c)
    (by_its_plan (fits_of a) (act_plan fostering t a) (step_at_once fostering t a) (planned fostering t a r) (act_faithful fostering t (read_html t read) a)
    nothing d st (fits_there (kind_of t) a v n d st g h) (all_said d.page (step_at_once fostering t a c) (is_paged d.page d.change st.base))))

tests_known : (t : Token) (x : Test) (d : Split) → StandsOn nothing d → true ≡ true → end_by (answer_of nothing) (test_plan t x d) ≡ Ok (holds t x (state_over d nothing))
tests_known t x d st i = test_faithful t x nothing d st (sees_there x d st)

-- the handling from a view is what it means
abbrev EndsAs : Split → Result Reached Crossing → Meant → Type 0
EndsAs v (Ok r) h = IsHandledWhole v r.split r.handled h
EndsAs v (Err crossing) h = ⊥

whole_of : (v : Split) (end : Result Reached Crossing) (h : Meant) → EndsOver nothing v end h → EndsAs v end h
whole_of v (Ok r) h m = record { control = m.control; edits = m.edits; switch = m.switch; stopped = m.stopped; stands = m.stands }
whole_of v (Err crossing) h m = absurd (true≢false (sym m ∙ nothing_touched crossing h.outcome))

-- nothing more is asked
suits_rest : (o : Option Token) (c : ControlState) → rest_suits nothing any_act any_test o c ≡ true
suits_rest None c = refl
suits_rest (Some t) c = turns_any nothing (bound c) t c

suits_any : (t : Token) (c : ControlState) → suits_at_once nothing any_act any_test t c ≡ true
suits_any t c = go (c.skip_lf && is_line_feed t)
  where
    go : (b : Bool) → (if b then rest_suits nothing any_act any_test (after_first t) (settled c) else turns_suit nothing any_act any_test (bound (settled c)) t (settled c)) ≡ true
    go true = suits_rest (after_first t) (settled c)
    go false = turns_any nothing (bound (settled c)) t (settled c)

-- the handling over nothing, where nothing is older
pub handled_known : (t : Token) (v : Split) → IsRead t → StandsOn nothing v → IsValid (state_over v nothing) → EndsOver nothing v (end_by (answer_of nothing) (handle_plan t v)) (handle_at_once (state_over v nothing) t)
handled_known t v read st valid = handled_over nothing any_act any_test acts_known tests_known t v read st valid (suits_any t (state_over v nothing))

handled_whole : (t : Token) (v : Split) → IsRead t → StandsOn nothing v → IsValid (state_over v nothing) → EndsAs v (end_by (answer_of nothing) (handle_plan t v)) (handle_at_once (state_over v nothing) t)
handled_whole t v read st valid = whole_of v (end_by (answer_of nothing) (handle_plan t v)) (handle_at_once (state_over v nothing) t) (handled_known t v read st valid)

whole_end : (t : Token) (v : Split) (end : Result Reached Crossing) → EndsAs v end (handle_at_once (state_over v nothing) t) → EndsWhole t v end
whole_end t v (Ok r) m = m
whole_end t v (Err crossing) m = m

pub known_handled : KnownHandled
known_handled t v old new end says r st valid read =
    let so : end_by (answer_of nothing) (handle_plan t v) ≡ end = subst (λ f. end_by f (handle_plan t v) ≡ end) says r.ends in
    whole_end t v end (subst (λ e. EndsAs v e (handle_at_once (state_over v nothing) t)) so (handled_whole t v read st valid))

-- what carries out the plan of handling does so
pub known_carried : (t : Token) (result : Result Handled Refusal) (old new : Sight) → Handles result old new (handle_plan t) → HandlesKnown t result old new
known_carried t (Ok handled) old new r = λ says st valid read. known_handled t old.split old.heard new.heard (Ok (record { split = new.split; handled = handled })) says r st valid read
known_carried t (Err (Crossed crossing)) old new r = λ says st valid read. known_handled t old.split old.heard new.heard (Err crossing) says r st valid read
known_carried t (Err NoMemory) old new r = λ says st valid read. tt
