-- A turn over an older state comes to what the definition's turn does, and the turns of a token to what the definition's do.
use Rattle.std.proofs.Common.{◌≡◌, ℕ, zero, suc, ◌≤◌, ◌⊎◌, inl, inr, arith, Bool, true, false, ◌||◌, Option, None, Some, refl, sym, subst, ap, ◌∙◌}
use Rattle.std.specs.Prelude.{if◌then◌else◌, Result, Ok, Err}
use Rattle.std.proofs.lemmas.Bool.{and_parts}
use Rattle.hp_elements.specs.Rules.{plan_for}
use Rattle.hp_elements.specs.Tokens.{kind_of}
use Rattle.hp_elements.specs.declared.act.Act.{Act}
use Rattle.hp_elements.specs.declared.act.Test.{Test}
use Rattle.hp_elements.specs.declared.token.Mode.{Mode}
use Rattle.hp_elements.specs.declared.token.Token.{Token}
use Rattle.hp_control.specs.declared.change.Change.{Change}
use Rattle.hp_control.specs.declared.question.Crossing.{Crossing}
use Rattle.hp_control.specs.declared.question.Crossing.TheVariants.{X3, X4}
use Rattle.hp_control.specs.Acts.{headed, touching}
use Rattle.hp_control.specs.Apply.{applied}
use Rattle.hp_control.specs.Faithful.{Page, Split, IsBase, StandsOn, state_over}
use Rattle.hp_control.specs.Foreign.{is_foreign}
use Rattle.hp_control.specs.Outcome.{Outcome, becomes, touches, touches_any}
use Rattle.hp_control.specs.Plan.{crosses, end_by, followed_by}
use Rattle.hp_control.specs.Running.{on_end, end_then}
use Rattle.hp_control.specs.States.{ControlState, IsValid}
use Rattle.hp_control.specs.Truth.{answer_of}
use Rattle.hp_views.specs.Quiet.{none_there, page_there, paged_part}
use Rattle.hp_foreign.specs.Laws.{goes_faithful}
use Rattle.hp_foreign.specs.Plans.{goes_plan}
use Rattle.hp_rules_rest.specs.Foreign.{foreign}
use Rattle.hp_model.specs.Finding.{nothing_missing}
use Rattle.hp_model.specs.Rows.{entering, foreign_turn, is_head_mode, mode_turn, rules, turn}
use Rattle.hp_model.specs.Steps.{holds, step}
use Rattle.hp_model.specs.Turns.{Handled, Turn, goes_on, done, again, after_turn, before, before_all, left_by, turns}
use Rattle.hp_model.specs.Whole.{IsRead}
use Rattle.hp_model.proofs.Course.{Course, Along, alien, fits}
use Rattle.hp_model.proofs.Handled.{Leaves, along-foreign, along-start, foreign-base, foreign-standing, foreign-top, or_second, turn-leaves, weigh}
use Rattle.hp_model.proofs.Passes.{base_of, foreign_passes, goes_foreign, good, mode_passes, rank, rules_pass, start}
use Rattle.hp_model.proofs.Stacks.{is_counted}
use Rattle.hp_model.proofs.Tally.{tally}
use Rattle.hp_model.proofs.Tests.{each_foreign, each_mode}
use Rattle.hp_model.proofs.Walking.{rules_meet}
use Rattle.hp_acts.specs.HandlePlans.{turns_plan, where_again}
use Rattle.hp_acts.specs.Plans.{act_plan, by_plan, test_plan}
use Rattle.hp_acts.specs.RowPlans.{Reached, Came, dispatched, is_early, mode_plan, rules_plan, turn_plan}
use Rattle.hp_acts.specs.RowPlans.{left as came_left, again as came_again}
use Rattle.hp_acts.specs.Suiting.{plan_suits, rules_suit, turn_suits, turns_suit}
use Rattle.hp_acts.specs.Suiting.{where_again as where_again_suits}
use Rattle.hp_acts.proofs.Matching.{IsHandled, MatchesAlike, MatchesTurn, handled_after, matches_before, nothing_handled, touched_before, touched_first, touched_second}
use Rattle.hp_acts.proofs.RowMatches.{foreign_rows, is_row_act, own_asked, row_matches, rules_match}

-- the mode of the whole state
pub mode_over : (s : ControlState) (v : Split) → (state_over v s).mode ≡ v.change.mode
mode_over s v = paged_part v.page (λ c. c.mode) (applied v.change s) (λ p c. refl)

-- entering the handling touches something older only where no chunk handles a token
abbrev entered_by : Bool → ControlState → Outcome
entered_by b c = if b then touching headed (becomes c) else becomes c

entered_own : (s : ControlState) (page : Option Page) (change : Change) (m : Mode) (c : ControlState) (b : Bool) → is_head_mode m ≡ b → is_early page m ≡ false → IsBase page change s → touches_any s (entered_by b c) ≡ false
entered_own s page change m c false e h base = refl
entered_own s None change m c true e h base = let z : true ≡ false = sym e ∙ h in absurd (cc)
entered_own s (Some page) change m c true e h base = ap (λ b. b || false) (none_there s base)

early_touch : (s : ControlState) (page : Option Page) (change : Change) (m : Mode) (c : ControlState) (b : Bool) → is_head_mode m ≡ b → is_early page m ≡ true → IsBase page change s → touches s X4 (entered_by b c) ≡ true
early_touch s None change m c true e h base = ap (λ b. b || false) (page_there change s base)
early_touch s None change m c false e h base = let z : true ≡ false = sym h ∙ e in absurd (cc)
early_touch s (Some page) change m c b e h base = let z : true ≡ false = sym h in absurd (cc)

handled_as : (s : ControlState) (d : Reached) (b : Bool) → StandsOn s d.split → touches_any s (entered_by b (state_over d.split s)) ≡ false → IsHandled s d d (record { outcome = entered_by b (state_over d.split s); switch = None; stopped = false })
handled_as s d false st h = nothing_handled s d st
handled_as s d true st h =
    let n = nothing_handled s d st in
    record { done = record { control = n.done.control; edits = n.done.edits; own = h; stands = st }; switch = n.switch; stopped = n.stopped }

-- the turns of a token come to what the definition's do, or something older was touched, or the turns ran out: so few gave none
abbrev pub RunOut : Crossing → Option Handled → Type 0
RunOut crossing few = (crossing ≡ X3) × (few ≡ None)

abbrev pub MatchesTurns : ControlState → Reached → Result Reached Crossing → Option Handled → Option Handled → Type 0
MatchesTurns s d (Ok e) few (Some h) = IsHandled s d e h
MatchesTurns s d (Ok e) few None = ⊥
MatchesTurns s d (Err crossing) few (Some h) = (touches s crossing h.outcome ≡ true) ⊎ RunOut crossing few
MatchesTurns s d (Err crossing) few None = Unit {0}

all_before : (s : ControlState) (d e : Reached) (h : Handled) (end : Result Reached Crossing) (few o : Option Handled) → IsHandled s d e h → MatchesTurns s e end few o → MatchesTurns s d end (before_all h few) (before_all h o)
all_before s d e h (Ok f) few (Some k) x m = handled_after s d e f h k x m
all_before s d e h (Ok f) few None x m = absurd m
all_before s d e h (Err crossing) few (Some k) x (inl m) = inl (touched_second s crossing h.outcome k.outcome m)
all_before s d e h (Err crossing) few (Some k) x (inr m) = inr (m.0, ap (before_all h) m.1)
all_before s d e h (Err crossing) few None x m = tt

crossed_before : (s : ControlState) (d : Reached) (crossing : Crossing) (h : Handled) (few o : Option Handled) → touches s crossing h.outcome ≡ true → MatchesTurns s d (Err crossing) few (before_all h o)
crossed_before s d crossing h few None m = tt
crossed_before s d crossing h few (Some k) m = inl (touched_first s crossing h.outcome k.outcome m)

ran_out : (s : ControlState) (d : Reached) (o : Option Handled) → MatchesTurns s d (Err X3) None o
ran_out s d None = tt
ran_out s d (Some h) = inr (refl, refl)

module _ (s : ControlState)
    (of_act : Bool → Token → Act → ControlState → Bool) (of_test : Test → ControlState → Bool)
    (acts_hold : (t : Token) (n : ℕ) → IsRead t → (fostering : Bool) (a : Act) (v : Course) (d : Split) → StandsOn s d → Along v n (state_over d s) → fits (kind_of t) a v ≡ true → is_row_act a ≡ true → of_act fostering t a (state_over d s) ≡ true
    → MatchesAlike s d (end_by (answer_of s) (by_plan (act_plan fostering t a) d)) (step fostering t a (state_over d s)))
    (tests_hold : (t : Token) (x : Test) (d : Split) → StandsOn s d → of_test x (state_over d s) ≡ true → end_by (answer_of s) (test_plan t x d) ≡ Ok (holds t x (state_over d s))) where
  dispatch_matches : (t : Token) (d : Reached) → IsRead t → StandsOn s d.split → IsValid (state_over d.split s) → (b : Bool) → is_foreign (kind_of t) (state_over d.split s).stack ≡ b
      → (if b then plan_suits s of_act of_test t (rules 4 t) (mode_turn t (state_over d.split s).mode) (rules_suit s of_act of_test t 4) (rules_suit s of_act of_test t 4 false (state_over d.split s).mode) false (plan_for foreign (kind_of t)) nothing_missing (state_over d.split s) else rules_suit s of_act of_test t 4 false (state_over d.split s).mode (state_over d.split s)) ≡ true
      → MatchesTurn s d (end_by (answer_of s) (dispatched t (state_over d.split s).mode d b)) (if b then foreign_turn t (state_over d.split s) else mode_turn t (state_over d.split s).mode (state_over d.split s))
  unfolding mode_passes foreign_passes
  dispatch_matches t d read st valid true e i =
      let c = state_over d.split s in
      let m = c.mode in
      let from = rank (kind_of t) m in
      let n = tally is_counted c.stack in
      let far = foreign-standing (kind_of t) m c valid.stack e in
      row_matches s from n t read of_act of_test (acts_hold t n read) (tests_hold t) (rules 4 t) (mode_turn t m) (rules_plan 4 t) (mode_plan t m) (rules_pass from (kind_of t) 4) (rules_pass from (kind_of t) 4 m)
      (rules_meet from n t read 4) (rules_meet from n t read 4 false m) (rules_suit s of_act of_test t 4) (rules_suit s of_act of_test t 4 false m) (rules_match s from n t read of_act of_test (acts_hold t n read) (tests_hold t) 4) (rules_match s from n t read of_act of_test (acts_hold t n read) (tests_hold t) 4 false m) false
      (plan_for foreign (kind_of t)) (record (start m) { base = alien }) d good good (foreign_rows t) st (along-foreign c valid (foreign-base m c valid.stack far) (foreign-top (kind_of t) c.stack e))
      (or_second (goes_foreign (base_of m)) _ far (each_foreign m (kind_of t))) i
  dispatch_matches t d read st valid false e i =
      let c = state_over d.split s in
      let n = tally is_counted c.stack in
      rules_match s (rank (kind_of t) c.mode) n t read of_act of_test (acts_hold t n read) (tests_hold t) 4 false c.mode (start c.mode) d good st (along-start c valid) (each_mode c.mode (kind_of t)) i

  asked_matches : (t : Token) (d : Reached) → IsRead t → StandsOn s d.split → IsValid (state_over d.split s)
      → (if is_foreign (kind_of t) (state_over d.split s).stack then plan_suits s of_act of_test t (rules 4 t) (mode_turn t (state_over d.split s).mode) (rules_suit s of_act of_test t 4) (rules_suit s of_act of_test t 4 false (state_over d.split s).mode) false (plan_for foreign (kind_of t)) nothing_missing (state_over d.split s) else rules_suit s of_act of_test t 4 false (state_over d.split s).mode (state_over d.split s)) ≡ true
      → MatchesTurn s d (end_by (answer_of s) (followed_by (goes_plan (kind_of t) d.split) (dispatched t d.split.change.mode d))) (if is_foreign (kind_of t) (state_over d.split s).stack then foreign_turn t (state_over d.split s) else mode_turn t (state_over d.split s).mode (state_over d.split s))
  asked_matches t d read st valid i =
      let c = state_over d.split s in
      let b = is_foreign (kind_of t) c.stack in
      let u = if b then foreign_turn t c else mode_turn t c.mode c in
      let asked : end_by (answer_of s) (followed_by (goes_plan (kind_of t) d.split) (dispatched t d.split.change.mode d)) ≡ end_by (answer_of s) (dispatched t d.split.change.mode d b) =
      end_then (answer_of s) (goes_plan (kind_of t) d.split) (dispatched t d.split.change.mode d)
      ∙ ap (λ r. on_end r (λ x. end_by (answer_of s) (dispatched t d.split.change.mode d x))) (goes_faithful (kind_of t) s d.split st) in
      subst (λ r. MatchesTurn s d r u) (sym asked)
      (subst (λ m. MatchesTurn s d (end_by (answer_of s) (dispatched t m d b)) u) (mode_over s d.split) (dispatch_matches t d read st valid b refl i))

  pub turn_matches : (t : Token) (d : Reached) → IsRead t → StandsOn s d.split → IsValid (state_over d.split s) → turn_suits s of_act of_test t (state_over d.split s) ≡ true → MatchesTurn s d (end_by (answer_of s) (turn_plan t d)) (turn t (state_over d.split s))
  unfolding turn turn_plan turn_suits
  turn_matches t d read st valid i = go (is_early d.split.page d.split.change.mode) refl
    where
      go : (b : Bool) → is_early d.split.page d.split.change.mode ≡ b
          → MatchesTurn s d (end_by (answer_of s) (if b then crosses X4 else followed_by (goes_plan (kind_of t) d.split) (dispatched t d.split.change.mode d)))
          (before (entering (state_over d.split s)) (if is_foreign (kind_of t) (state_over d.split s).stack then foreign_turn t (state_over d.split s) else mode_turn t (state_over d.split s).mode (state_over d.split s)))
      go true e =
          let c = state_over d.split s in
          touched_before s X4 (entering c) (if is_foreign (kind_of t) c.stack then foreign_turn t c else mode_turn t c.mode c)
          (early_touch s d.split.page d.split.change d.split.change.mode c (is_head_mode c.mode) (ap is_head_mode (sym (mode_over s d.split))) e st.base)
      go false e =
          let c = state_over d.split s in
          let own = entered_own s d.split.page d.split.change d.split.change.mode c (is_head_mode c.mode) (ap is_head_mode (sym (mode_over s d.split))) e st.base in
          matches_before s d d (entering c) (end_by (answer_of s) (followed_by (goes_plan (kind_of t) d.split) (dispatched t d.split.change.mode d))) (if is_foreign (kind_of t) c.stack then foreign_turn t c else mode_turn t c.mode c)
          (handled_as s d (is_head_mode c.mode) st own)
          (asked_matches t d read st valid (own_asked (touches_any s (entering c).outcome) _ own i))

  pub turns_match : (k many : ℕ) (t : Token) (d : Reached) → k ≤ many → IsRead t → StandsOn s d.split → IsValid (state_over d.split s) → turns_suit s of_act of_test k t (state_over d.split s) ≡ true
      → MatchesTurns s d (end_by (answer_of s) (turns_plan k t d)) (turns turn k t (state_over d.split s)) (turns turn many t (state_over d.split s))
  unfolding turns_plan turns_suit
  turns_match zero many t d less read st valid i = ran_out s d (turns turn many t (state_over d.split s))
  turns_match (suc k) zero t d less read st valid i = absurd (omega arith)
  turns_match (suc k) (suc many) t d less read st valid i =
      let suit = and_parts (turn_suits s of_act of_test t (state_over d.split s)) (where_again_suits s (turn t (state_over d.split s)) (turns_suit s of_act of_test k)) i in
      subst (λ r. MatchesTurns s d r (turns turn (suc k) t (state_over d.split s)) (turns turn (suc many) t (state_over d.split s))) (sym (end_then (answer_of s) (turn_plan t d) (where_again (turns_plan k))))
      (go (end_by (answer_of s) (turn_plan t d)) (turn t (state_over d.split s)) (turn_matches t d read st valid suit.0) (turn-leaves t (state_over d.split s) read valid) suit.1
      (λ other e. turns_match k many other e (omega arith)))
    where
      go : (end : Result Came Crossing) (u : Turn) → MatchesTurn s d end u → Leaves (weigh t (state_over d.split s)) u → where_again_suits s u (turns_suit s of_act of_test k) ≡ true
          → ((other : Token) (e : Reached) → IsRead other → StandsOn s e.split → IsValid (state_over e.split s) → turns_suit s of_act of_test k other (state_over e.split s) ≡ true
          → MatchesTurns s e (end_by (answer_of s) (turns_plan k other e)) (turns turn k other (state_over e.split s)) (turns turn many other (state_over e.split s)))
          → MatchesTurns s d (on_end end (λ c. end_by (answer_of s) (where_again (turns_plan k) c))) (after_turn u (turns turn k)) (after_turn u (turns turn many))
      go (Err crossing) (goes_on h) m l q rest = inl m
      go (Err crossing) (done h) m l q rest = inl m
      go (Err crossing) (again x h) m l q rest = crossed_before s d crossing h (before_all h (turns turn k x (left_by h))) (turns turn many x (left_by h)) m
      go (Ok (came_left e)) (goes_on h) m l q rest = m
      go (Ok (came_left e)) (done h) m l q rest = m
      go (Ok (came_left e)) (again x h) m l q rest = absurd m
      go (Ok (came_again x e)) (goes_on h) m l q rest = absurd m
      go (Ok (came_again x e)) (done h) m l q rest = absurd m
      go (Ok (came_again x e)) (again y h) m l r rest =
          let there : state_over e.split s ≡ left_by h = m.1.done.control in
          let q : turns_suit s of_act of_test k y (left_by h) ≡ true = own_asked (touches_any s h.outcome) (turns_suit s of_act of_test k y (left_by h)) m.1.done.own r in
          all_before s d e h (end_by (answer_of s) (turns_plan k x e)) (turns turn k y (left_by h)) (turns turn many y (left_by h)) m.1
          (subst (λ z. MatchesTurns s e (end_by (answer_of s) (turns_plan k z e)) (turns turn k y (left_by h)) (turns turn many y (left_by h))) (sym m.0)
          (subst (λ c. MatchesTurns s e (end_by (answer_of s) (turns_plan k y e)) (turns turn k y c) (turns turn many y c)) there
          (rest y e l.2 m.1.done.stands (subst (λ c. IsValid c) (sym there) l.0) (ap (turns_suit s of_act of_test k y) there ∙ q))))
