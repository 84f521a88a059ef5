-- Over any older state a token is handled as the definition says, or it crosses where something older is touched.
use Rattle.std.proofs.Common.{◌≡◌, ℕ, suc, ◌+◌, List, [], ◌∷◌, ◌++◌, length, Bool, true, false, ◌||◌, ◌&&◌, not, Option, None, Some, refl, sym, subst, ap, ◌∙◌, arith, length-append}
use Rattle.std.specs.Prelude.{Ok, drop, map, nat_lt, if◌then◌else◌}
use Rattle.std.specs.List.{list_any}
use Rattle.std.specs.Option.{is_some}
use Rattle.std.proofs.lemmas.Bool.{and_parts, lt-ltb, le-ltb, le-leb, lt-leb, ne_eqb, true≢false}
use Rattle.hp_elements.specs.Tokens.{kind_of}
use Rattle.hp_elements.specs.declared.act.Act.{Act}
use Rattle.hp_elements.specs.declared.act.Act.TheVariants as act
use Rattle.hp_elements.specs.declared.act.Test.{Test}
use Rattle.hp_elements.specs.declared.act.Test.TheVariants as test
use Rattle.hp_elements.specs.KnownNames as known
use Rattle.hp_elements.specs.declared.token.Mode.{Mode}
use Rattle.hp_elements.specs.declared.token.Token.{Token}
use Rattle.hp_control.specs.declared.element.OpenElement.{OpenElement}
use Rattle.hp_control.specs.Agree.{ends_alike, true_alike}
use Rattle.hp_control.specs.Apply.{applied, shifted}
use Rattle.hp_control.specs.Faithful.{IsSaid, Page, Split, StandsOn, state_over}
use Rattle.hp_control.specs.Outcome.{Outcome}
use Rattle.hp_control.specs.Plan.{end_by}
use Rattle.hp_control.specs.States.{AreIds, ControlState, is_named, is_template}
use Rattle.hp_control.specs.Truth.{answer_of}
use Rattle.hp_views.specs.FieldLaws.{has_own}
use Rattle.hp_views.specs.OwnIds.{ids, ids_drop}
use Rattle.hp_views.specs.Quiet.{paged_part}
use Rattle.hp_views.specs.ResetLaws.{is_kept_by, is_same}
use Rattle.hp_views.specs.SecondPlans.{own_modes}
use Rattle.hp_views.specs.StackLaws.{full_stack}
use Rattle.hp_model.specs.AtOnce.{after_first, handle_at_once}
use Rattle.hp_model.specs.Handling.{settled}
use Rattle.hp_model.specs.Steps.{holds, step}
use Rattle.hp_model.specs.Tokens.{is_line_feed}
use Rattle.hp_model.specs.Whole.{IsRead}
use Rattle.hp_model.proofs.Course.{Course, Along, fits}
use Rattle.hp_acts.specs.ActLaws.{act_faithful, fits_of, step_at_once}
use Rattle.hp_acts.specs.HandlePlans.{handle_plan}
use Rattle.hp_acts.specs.Older.{EndsOver, OlderHandled}
use Rattle.hp_acts.specs.Plans.{act_plan, by_plan, test_plan}
use Rattle.hp_acts.specs.Told.{any_new, are_together, has_new_mode, is_act_told, is_first_new, is_rest_told, is_test_told, is_told, is_told_at_once, reads_told}
use Rattle.hp_acts.specs.TestLaws.{sees, test_faithful}
use Rattle.hp_acts.proofs.ActMatches.{act_alike, by_its_plan, planned, read_html, spared_alike}
use Rattle.hp_acts.proofs.HandleMatches.{handled_over, rest_suits, suits_at_once}
use Rattle.hp_acts.proofs.Matching.{MatchesAlike, matches_alike}
use Rattle.hp_acts.proofs.RowMatches.{is_row_act}

-- no older element is new
first_older : (s : ControlState) (es : List OpenElement) → AreIds 0 s.next (ids es) → is_first_new s es ≡ true → ⊥
first_older s [] h k = true≢false (sym k)
first_older s (e ∷ es) h k = true≢false (sym k ∙ lt-leb s.next e.id h.1)

own_first : (s : ControlState) (own older : List OpenElement) → AreIds 0 s.next (ids older) → is_first_new s (map (shifted s.next) own ++ older) ≡ true → nat_lt 0 (length own) ≡ true
own_first s [] older h k = absurd (first_older s older h k)
own_first s (e ∷ es) older h k = lt-ltb 0 (length (e ∷ es)) (omega arith)

left_ids : (s : ControlState) (d : Split) → StandsOn s d → AreIds 0 s.next (ids (drop d.change.popped s.stack))
left_ids s d st = ids_drop 0 s.next d.change.popped s.stack st.older.stack_ids

own_there : (s : ControlState) (d : Split) → StandsOn s d → is_first_new s (state_over d s).stack ≡ true → has_own d ≡ true
own_there s d st h = own_first s d.change.stack (drop d.change.popped s.stack) (left_ids s d st) (sym (ap (is_first_new s) (full_stack s d)) ∙ h)

any_older : (s : ControlState) (test : OpenElement → Bool) (es : List OpenElement) → AreIds 0 s.next (ids es) → any_new s test es ≡ false
any_older s test [] h = refl
any_older s test (e ∷ es) h = ap (λ b. (b && test e) || any_new s test es) (lt-leb s.next e.id h.1) ∙ any_older s test es h.3

any_own : (s : ControlState) (test : OpenElement → Bool) → ((e : OpenElement) → test (shifted s.next e) ≡ test e) → (own older : List OpenElement) → AreIds 0 s.next (ids older) → any_new s test (map (shifted s.next) own ++ older) ≡ list_any test own
any_own s test same [] older h = any_older s test older h
any_own s test same (e ∷ es) older h =
    ap (λ b. (b && test (shifted s.next e)) || any_new s test (map (shifted s.next) es ++ older)) (le-leb s.next (s.next + e.id) (omega arith))
    ∙ (ap (λ b. b || any_new s test (map (shifted s.next) es ++ older)) (same e) ∙ ap (λ b. test e || b) (any_own s test same es older h))

-- template modes that are new are own ones
more_modes : (ms ts : List Mode) → nat_lt (length ts) (length (ms ++ ts)) ≡ nat_lt 0 (length ms)
more_modes [] ts = le-ltb (length ts) (length ts) (omega arith)
more_modes (m ∷ ms) ts =
    let e : length (m ∷ ms ++ ts) ≡ length (m ∷ ms) + length ts = length-append (m ∷ ms) ts in
    lt-ltb (length ts) (length (m ∷ ms ++ ts)) (omega (arith, e)) ∙ sym (lt-ltb 0 (length (m ∷ ms)) (omega arith))

modes_over : (s : ControlState) (d : Split) → has_new_mode s (state_over d s) ≡ nat_lt 0 (length d.change.templates)
modes_over s d = ap (λ ts. nat_lt (length s.templates) (length ts)) (paged_part d.page (λ c. c.templates) (applied d.change s) (λ p c. refl)) ∙ more_modes d.change.templates s.templates

any_over : (s : ControlState) (d : Split) (test : OpenElement → Bool) → ((e : OpenElement) → test (shifted s.next e) ≡ test e) → StandsOn s d → any_new s test (state_over d s).stack ≡ list_any test d.change.stack
any_over s d test same st = ap (any_new s test) (full_stack s d) ∙ any_own s test same d.change.stack (drop d.change.popped s.stack) (left_ids s d st)

kept_by : (page : Option Page) (ms : List Mode) (es : List OpenElement) → (not (list_any (is_named known.Html) es) && is_same (list_any is_template es) (nat_lt 0 (length ms))) ≡ true → is_kept_by page ms es ≡ true
kept_by None ms es h = h
kept_by (Some page) ms es h = refl

kept_over : (s : ControlState) (d : Split) → StandsOn s d → are_together s (state_over d s) ≡ true → is_kept_by d.page d.change.templates d.change.stack ≡ true
kept_over s d st h =
    kept_by d.page d.change.templates d.change.stack
    (sym (ap (λ b. not b && is_same (any_new s is_template (state_over d s).stack) (has_new_mode s (state_over d s))) (any_over s d (is_named known.Html) (λ e. refl) st)
    ∙ (ap (λ b. not (list_any (is_named known.Html) d.change.stack) && is_same b (has_new_mode s (state_over d s))) (any_over s d is_template (λ e. refl) st)
    ∙ ap (λ b. not (list_any (is_named known.Html) d.change.stack) && is_same (list_any is_template d.change.stack) b) (modes_over s d)))
    ∙ h)

-- what an act reads of a view is there
fits_over : (s : ControlState) (a : Act) (d : Split) → StandsOn s d → reads_told s a (state_over d s) ≡ true → fits_of a d ≡ true
fits_over s act.FormPointer d st h = own_there s d st h
fits_over s act.AppendToList d st h = own_there s d st h
fits_over s act.Reset d st h = kept_over s d st h
fits_over s _ d st h = refl

has_modes_of : (ms : List Mode) (paged : Bool) → nat_lt 0 (length ms) ≡ true → (own_modes ms || paged) ≡ true
has_modes_of [] paged h = absurd (true≢false (sym h))
has_modes_of (m ∷ ms) paged h = ap (λ b. not b || paged) (ne_eqb (suc (length ms)) 0 (λ q. omega (arith, q)))

sees_over : (s : ControlState) (x : Test) (d : Split) → is_test_told s x (state_over d s) ≡ true → sees x d ≡ true
sees_over s test.HasTemplateModes d h = has_modes_of d.change.templates (is_some d.page) (sym (modes_over s d) ∙ h)
sees_over s _ d h = refl

not_true : (b : Bool) → not b ≡ true → b ≡ false
not_true false h = refl
not_true true h = absurd (true≢false (sym h))

said_of : (page : Option Page) (o : Outcome) → o.spared ≡ false → IsSaid page o
said_of None o h = h
said_of (Some page) o h = tt

module _ (s : ControlState) where
  pub acts_older : (t : Token) (n : ℕ) → IsRead t → (fostering : Bool) (a : Act) (v : Course) (d : Split) → StandsOn s d → Along v n (state_over d s) → fits (kind_of t) a v ≡ true → is_row_act a ≡ true → is_act_told s fostering t a (state_over d s) ≡ true
      → MatchesAlike s d (end_by (answer_of s) (by_plan (act_plan fostering t a) d)) (step fostering t a (state_over d s))
  acts_older t n read fostering a v d st g h r i =
      let c = state_over d s in
      let parts = and_parts (reads_told s a c) (not (step fostering t a c).spared) i in
      act_alike s fostering t a c d (end_by (answer_of s) (by_plan (act_plan fostering t a) d))
      (matches_alike s d (end_by (answer_of s) (by_plan (act_plan fostering t a) d)) (step_at_once fostering t a c)
      (by_its_plan (fits_of a) (act_plan fostering t a) (step_at_once fostering t a) (planned fostering t a r) (act_faithful fostering t (read_html t read) a)
      s d st (fits_over s a d st parts.0) (said_of d.page (step_at_once fostering t a c) (spared_alike fostering t a c ∙ not_true (step fostering t a c).spared parts.1))))

  tests_older : (t : Token) (x : Test) (d : Split) → StandsOn s d → is_test_told s x (state_over d s) ≡ true → end_by (answer_of s) (test_plan t x d) ≡ Ok (holds t x (state_over d s))
  tests_older t x d st h = test_faithful t x s d st (sees_over s x d h)

  told_rest : (o : Option Token) (c : ControlState) → is_rest_told s o c ≡ rest_suits s (is_act_told s) (is_test_told s) o c
  told_rest None c = refl
  told_rest (Some t) c = refl

  told_suits : (t : Token) (c : ControlState) → is_told_at_once s t c ≡ true → suits_at_once s (is_act_told s) (is_test_told s) t c ≡ true
  told_suits t c h = sym (ap (λ b. if c.skip_lf && is_line_feed t then b else is_told s t (settled c)) (told_rest (after_first t) (settled c))) ∙ h

pub older_handled : OlderHandled
older_handled t v old new end s r true_all st valid read told =
    let c = state_over v s in
    let same = true_alike s old.says (handle_plan t v) true_all in
    let so : end_by (answer_of s) (handle_plan t v) ≡ end = sym (ends_alike s old.says (handle_plan t v) same) ∙ r.ends in
    subst (λ e. EndsOver s v e (handle_at_once c t)) so
    (handled_over s (is_act_told s) (is_test_told s) (acts_older s) (tests_older s) t v read st valid (told_suits s t c told))
