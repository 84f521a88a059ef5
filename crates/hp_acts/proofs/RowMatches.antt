-- A row over an older state comes to what the definition's row does, by each way through it.
use Rattle.std.proofs.Common.{◌≡◌, ℕ, zero, suc, ◌+◌, List, [], ◌∷◌, ◌++◌, length, Bool, true, false, ◌&&◌, ◌||◌, refl, sym, subst, ap, ◌∙◌, arith, append_assoc, append-nil, length-append, nat_lt}
use Rattle.std.specs.Prelude.{if◌then◌else◌, Result, Ok, Err}
use Rattle.std.specs.List.{list_all}
use Rattle.std.proofs.Math.Bool.{or-true}
use Rattle.std.proofs.lemmas.Bool.{lt-ltb, le-ltb, and_parts, true≢false}
use Rattle.hp_elements.specs.Rules.{Plan as RowPlan, Row, ends, ◌⨾◌, when, unless, acts_from, is_for, plan_for}
use Rattle.hp_elements.specs.Tokens.{kind_of}
use Rattle.hp_elements.specs.declared.act.Act.{Act}
use Rattle.hp_elements.specs.declared.act.Act.TheVariants as act
use Rattle.hp_elements.specs.declared.act.Test.{Test}
use Rattle.hp_elements.specs.declared.token.Kind.{Kind}
use Rattle.hp_elements.specs.declared.token.Mode.{Mode}
use Rattle.hp_elements.specs.declared.token.Mode.TheVariants as mode
use Rattle.hp_elements.specs.declared.token.Token.{Token}
use Rattle.hp_control.specs.declared.question.Crossing.{Crossing}
use Rattle.hp_control.specs.Faithful.{Split, StandsOn, state_over}
use Rattle.hp_control.specs.Outcome.{Outcome, touches_any}
use Rattle.hp_control.specs.Plan.{Plan, end_by, followed_by}
use Rattle.hp_control.specs.Running.{on_end, end_then}
use Rattle.hp_control.specs.States.{ControlState}
use Rattle.hp_control.specs.Truth.{answer_of}
use Rattle.hp_rules_rest.specs.Foreign.{foreign}
use Rattle.hp_rules_rest.specs.Whole.{every_mode_rows}
use Rattle.hp_model.specs.Finding.{nothing_missing}
use Rattle.hp_model.specs.Rows.{carry, carry_plan, nothing_more as nothing_left, rules}
use Rattle.hp_model.specs.Steps.{holds, step}
use Rattle.hp_model.specs.Turns.{Handled, Turn, goes_on, done, again, before, and_then, as_part, left_by, plainly, unchanged, stopping as model_stops, switching as model_switches}
use Rattle.hp_model.specs.Whole.{IsRead}
use Rattle.hp_model.proofs.Course.{Course, Along, after, fits, assume}
use Rattle.hp_model.proofs.Following.{act_along}
use Rattle.hp_model.proofs.Passes.{Rank, act_passes, plan_passes, rules_pass}
use Rattle.hp_model.proofs.Walking.{Meets, assumed, rules_meet}
use Rattle.hp_acts.specs.Plans.{act_plan, by_plan, test_plan}
use Rattle.hp_acts.specs.RowPlans.{Reached, Came, act_then, acts_plan, changed, nothing_more, rules_plan, stopping, switching, where_left}
use Rattle.hp_acts.specs.RowPlans.{left as came_left, again as came_again}
use Rattle.hp_acts.specs.Suiting.{act_suits, plan_suits, rules_suit, while_own}
use Rattle.hp_acts.proofs.Matching.{IsHandled, MatchesAlike, MatchesTurn, matches_before, nothing_handled, no_touch, then_nothing, then_then, touched_before, touched_part_then}

-- an act that plans of rows have: a test stands beside them
abbrev pub is_row_act : Act → Bool
is_row_act (act.If test otherwise) = false
is_row_act (act.Unless test otherwise) = false
is_row_act _ = true

abbrev pub has_row_acts : RowPlan → Bool
has_row_acts ends = true
has_row_acts (a ⨾ plan) = is_row_act a && has_row_acts plan
has_row_acts (when test plan rest) = has_row_acts plan && has_row_acts rest
has_row_acts (unless test plan rest) = has_row_acts plan && has_row_acts rest

rows_for : (rows : List Row) (kind : Kind) → list_all (λ row. has_row_acts row.plan) rows ≡ true → has_row_acts (plan_for rows kind) ≡ true
rows_for [] kind h = refl
rows_for (row ∷ rows) kind h = go (is_for row.tokens kind) (rows_for rows kind (and_parts (has_row_acts row.plan) (list_all (λ r. has_row_acts r.plan) rows) h).1)
  where
    go : (b : Bool) → has_row_acts (plan_for rows kind) ≡ true → has_row_acts (if b then row.plan else plan_for rows kind) ≡ true
    go true later = (and_parts (has_row_acts row.plan) (list_all (λ r. has_row_acts r.plan) rows) h).0
    go false later = later

mode_rows : (m : Mode) → list_all (λ row. has_row_acts row.plan) (every_mode_rows m) ≡ true
unfolding every_mode_rows
mode_rows mode.Initial = refl
mode_rows _ = refl

pub foreign_rows : (t : Token) → has_row_acts (plan_for foreign (kind_of t)) ≡ true
foreign_rows t = rows_for foreign (kind_of t) refl

-- where nothing older was touched, the rest is asked
pub own_asked : (a b : Bool) → a ≡ false → (a || b) ≡ true → b ≡ true
own_asked false b e h = h
own_asked true b e h = absurd (true≢false e)

-- of a state over s, from the rank at the turn's start, where so many elements counted then
module _ (s : ControlState) (from : Rank) (n : ℕ) (t : Token) (read : IsRead t)
    (of_act : Bool → Token → Act → ControlState → Bool) (of_test : Test → ControlState → Bool)
    (acts_hold : (fostering : Bool) (a : Act) (v : Course) (d : Split) → StandsOn s d → Along v n (state_over d s) → fits (kind_of t) a v ≡ true → is_row_act a ≡ true → of_act fostering t a (state_over d s) ≡ true
    → MatchesAlike s d (end_by (answer_of s) (by_plan (act_plan fostering t a) d)) (step fostering t a (state_over d s)))
    (tests_hold : (x : Test) (d : Split) → StandsOn s d → of_test x (state_over d s) ≡ true → end_by (answer_of s) (test_plan t x d) ≡ Ok (holds t x (state_over d s))) where
  -- the rest of a row comes to what the rest of the definition's does, from each state on a course that passes
  abbrev Rests : (Reached → Plan Came) → (ControlState → Turn) → (Course → Bool) → (ControlState → Bool) → Type 0
  Rests go f next suits = (w : Course) (e : Reached) → StandsOn s e.split → Along w n (state_over e.split s) → next w ≡ true → suits (state_over e.split s) ≡ true → MatchesTurn s e (end_by (answer_of s) (go e)) (f (state_over e.split s))

  -- an act, and then the rest
  act_done : (d : Reached) (end : Result Split Crossing) (o : Outcome) (go : Reached → Plan Came) (f : ControlState → Turn) (next : Course → Bool) (suits : ControlState → Bool) (w : Course)
      → MatchesAlike s d.split end o → Along w n o.control → next w ≡ true → (touches_any s o || suits o.control) ≡ true → Rests go f next suits
      → MatchesTurn s d (on_end end (λ v. end_by (answer_of s) (go (changed d v)))) (and_then (goes_on (plainly o)) f)
  act_done d (Err crossing) o go f next suits w m g h q rest = touched_before s crossing (plainly o) (f o.control) m
  act_done d (Ok v) o go f next suits w m g h q rest =
      let e = changed d v in
      let x : IsHandled s d e (plainly o) = record { done = m; switch = refl; stopped = sym (no_touch d.handled.stopped) } in
      matches_before s d e (plainly o) (end_by (answer_of s) (go e)) (f o.control) x
      (subst (λ r. MatchesTurn s e (end_by (answer_of s) (go e)) (f r)) m.control (rest w e m.stands (subst (λ r. Along w n r) (sym m.control) g) h (ap suits m.control ∙ own_asked (touches_any s o) (suits o.control) m.own q)))

  -- the rules of a mode, and then the rest
  left_done : (d e : Reached) (h : Handled) (go : Reached → Plan Came) (f : ControlState → Turn) (next : Course → Bool) (suits : ControlState → Bool) (w : Course)
      → IsHandled s d e h → Along w n (left_by h) → next w ≡ true → (touches_any s h.outcome || suits (left_by h)) ≡ true → Rests go f next suits
      → MatchesTurn s d (end_by (answer_of s) (go e)) (before h (f (left_by h)))
  left_done d e h go f next suits w m g k q rest =
      matches_before s d e h (end_by (answer_of s) (go e)) (f (left_by h)) m
      (subst (λ r. MatchesTurn s e (end_by (answer_of s) (go e)) (f r)) m.done.control (rest w e m.done.stands (subst (λ r. Along w n r) (sym m.done.control) g) k (ap suits m.done.control ∙ own_asked (touches_any s h.outcome) (suits (left_by h)) m.done.own q)))

  part_done : (d : Reached) (end : Result Came Crossing) (u : Turn) (go : Reached → Plan Came) (f : ControlState → Turn) (next : Course → Bool) (suits : ControlState → Bool)
      → MatchesTurn s d end u → Meets from n next next u → while_own s (as_part u) suits ≡ true → Rests go f next suits
      → MatchesTurn s d (on_end end (λ c. end_by (answer_of s) (where_left go c))) (and_then (as_part u) f)
  part_done d (Err crossing) u go f next suits m k q rest = touched_part_then s crossing u f m
  part_done d (Ok (came_left e)) (goes_on h) go f next suits m (w, k) q rest = left_done d e h go f next suits w m k.0 k.1 q rest
  part_done d (Ok (came_left e)) (done h) go f next suits m (w, k) q rest = left_done d e h go f next suits w m k.0 k.1 q rest
  part_done d (Ok (came_left e)) (again u h) go f next suits m k q rest = absurd m
  part_done d (Ok (came_again u e)) (goes_on h) go f next suits m k q rest = absurd m
  part_done d (Ok (came_again u e)) (done h) go f next suits m k q rest = absurd m
  part_done d (Ok (came_again u e)) (again x h) go f next suits m k q rest = m

  module _ (follow : Bool → Mode → ControlState → Turn) (present : ControlState → Turn)
      (follow_plan : Bool → Mode → Reached → Plan Came) (present_plan : Reached → Plan Came)
      (follow_passes : Mode → Course → (Course → Bool) → Bool) (present_passes : Course → (Course → Bool) → Bool)
      (follow_meets : (f : Bool) (m : Mode) (v : Course) (r : ControlState) (next : Course → Bool) → Along v n r → follow_passes m v next ≡ true → Meets from n next next (follow f m r))
      (present_meets : (v : Course) (r : ControlState) (next : Course → Bool) → Along v n r → present_passes v next ≡ true → Meets from n next next (present r))
      (follow_suits : Bool → Mode → ControlState → Bool) (present_suits : ControlState → Bool)
      (follow_matches : (f : Bool) (m : Mode) (v : Course) (e : Reached) (next : Course → Bool) → StandsOn s e.split → Along v n (state_over e.split s) → follow_passes m v next ≡ true → follow_suits f m (state_over e.split s) ≡ true
      → MatchesTurn s e (end_by (answer_of s) (follow_plan f m e)) (follow f m (state_over e.split s)))
      (present_matches : (v : Course) (e : Reached) (next : Course → Bool) → StandsOn s e.split → Along v n (state_over e.split s) → present_passes v next ≡ true → present_suits (state_over e.split s) ≡ true
      → MatchesTurn s e (end_by (answer_of s) (present_plan e)) (present (state_over e.split s)))
      (fostering : Bool) where
    abbrev acts : ℕ → ℕ → List Act → Reached → Plan Came
    acts = acts_plan follow_plan present_plan fostering t

    abbrev one_act : Act → ℕ → (ℕ → Reached → Plan Came) → Reached → Plan Came
    one_act = act_then follow_plan present_plan fostering t

    abbrev act_fine : Act → ControlState → Bool
    act_fine = act_suits s of_act of_test t follow present follow_suits present_suits fostering

    abbrev fine : RowPlan → (ControlState → Bool) → ControlState → Bool
    fine = plan_suits s of_act of_test t follow present follow_suits present_suits fostering

    abbrev meant : RowPlan → ControlState → Turn
    meant = carry_plan follow present fostering t

    used : (d : Reached) (p : Plan Came) (u : Turn) (go : Reached → Plan Came) (f : ControlState → Turn) (next : Course → Bool) (suits : ControlState → Bool)
        → MatchesTurn s d (end_by (answer_of s) p) u → Meets from n next next u → while_own s (as_part u) suits ≡ true → Rests go f next suits
        → MatchesTurn s d (end_by (answer_of s) (followed_by p (where_left go))) (and_then (as_part u) f)
    used d p u go f next suits m k q rest =
        subst (λ x. MatchesTurn s d x (and_then (as_part u) f)) (sym (end_then (answer_of s) p (where_left go)))
        (part_done d (end_by (answer_of s) p) u go f next suits m k q rest)

    act_matches : (a : Act) (at : ℕ) (go : ℕ → Reached → Plan Came) (v : Course) (d : Reached) (next last : Course → Bool) (f : ControlState → Turn) (suits : ControlState → Bool)
        → is_row_act a ≡ true → StandsOn s d.split → Along v n (state_over d.split s) → act_passes from (kind_of t) follow_passes present_passes a v next last ≡ true
        → act_fine a (state_over d.split s) ≡ true → while_own s (carry follow present fostering t a (state_over d.split s)) suits ≡ true → Rests (go (at + 1)) f next suits
        → MatchesTurn s d (end_by (answer_of s) (one_act a at go d)) (and_then (carry follow present fostering t a (state_over d.split s)) f)
    act_matches act.Done at go v d next last f suits r st g h i q rest = nothing_handled s d st
    act_matches act.Again at go v d next last f suits r st g h i q rest = (refl, nothing_handled s d st)
    act_matches (act.AgainAs name) at go v d next last f suits r st g h i q rest = (refl, nothing_handled s d st)
    act_matches (act.As m) at go v d next last f suits r st g h i q rest =
        used d (follow_plan fostering m d) (follow fostering m (state_over d.split s)) (go (at + 1)) f next suits (follow_matches fostering m v d next st g h i) (follow_meets fostering m v (state_over d.split s) next g h) q rest
    act_matches (act.AsFostered m) at go v d next last f suits r st g h i q rest =
        used d (follow_plan true m d) (follow true m (state_over d.split s)) (go (at + 1)) f next suits (follow_matches true m v d next st g h i) (follow_meets true m v (state_over d.split s) next g h) q rest
    act_matches act.AsPresent at go v d next last f suits r st g h i q rest =
        used d (present_plan d) (present (state_over d.split s)) (go (at + 1)) f next suits (present_matches v d next st g h i) (present_meets v (state_over d.split s) next g h) q rest
    act_matches act.Stop at go v d next last f suits r st g h i q rest =
        let c = state_over d.split s in
        let e = stopping d in
        let x : IsHandled s d e (model_stops c) = record { done = (nothing_handled s d st).done; switch = refl; stopped = sym (or-true d.handled.stopped) } in
        matches_before s d e (model_stops c) (end_by (answer_of s) (go (at + 1) e)) (f c) x (rest v e st g h q)
    act_matches (act.Lexer to) at go v d next last f suits r st g h i q rest =
        let c = state_over d.split s in
        let e = switching to d in
        let x : IsHandled s d e (model_switches to c) = record { done = (nothing_handled s d st).done; switch = refl; stopped = sym (no_touch d.handled.stopped) } in
        matches_before s d e (model_switches to c) (end_by (answer_of s) (go (at + 1) e)) (f c) x (rest v e st g h q)
    act_matches (act.If test otherwise) at go v d next last f suits r st g h i q rest = absurd (true≢false (sym r))
    act_matches (act.Unless test otherwise) at go v d next last f suits r st g h i q rest = absurd (true≢false (sym r))
    act_matches other at go v d next last f suits r st g h i q rest =
        let parts = and_parts (fits (kind_of t) other v) (next (after (kind_of t) other v)) h in
        subst (λ x. MatchesTurn s d x (and_then (goes_on (plainly (step fostering t other (state_over d.split s)))) f)) (sym (end_then (answer_of s) (by_plan (act_plan fostering t other) d.split) (λ w. go (at + 1) (changed d w))))
        (act_done d (end_by (answer_of s) (by_plan (act_plan fostering t other) d.split)) (step fostering t other (state_over d.split s)) (go (at + 1)) f next suits (after (kind_of t) other v)
        (acts_hold fostering other v d.split st g parts.0 r i) (act_along fostering t read other v n (state_over d.split s) g parts.0) parts.1 q rest)

    -- the acts before the place are passed over
    acts_skip : (xs ys : List Act) (at next : ℕ) (d : Reached) → at + length xs ≡ next → acts at next (xs ++ ys) d ≡ acts next next ys d
    acts_skip [] ys at next d e =
        let same : at ≡ next = omega arith in
        ap (λ k. acts k next ys d) same
    acts_skip (x ∷ xs) ys at next d e =
        let before_it : nat_lt at next ≡ true = lt-ltb at next (omega arith) in
        rw before_it (acts_skip xs ys (at + 1) next d (omega arith))

    acts_enter : (x : Act) (xs : List Act) (at : ℕ) (d : Reached) → acts at at (x ∷ xs) d ≡ one_act x at (λ place. acts (at + 1) place xs) d
    acts_enter x xs at d =
        let here : nat_lt at at ≡ false = le-ltb at at (omega arith) in
        rw here refl

    tested_if : (test : Test) (next : ℕ) (xs : List Act) (at : ℕ) (d : Reached) → StandsOn s d.split → of_test test (state_over d.split s) ≡ true
        → end_by (answer_of s) (acts at at (act.If test next ∷ xs) d) ≡ end_by (answer_of s) (acts (at + 1) (if holds t test (state_over d.split s) then at + 1 else next) xs d)
    tested_if test next xs at d st i =
        ap (end_by (answer_of s)) (acts_enter (act.If test next) xs at d)
        ∙ (end_then (answer_of s) (test_plan t test d.split) (λ b. acts (at + 1) (if b then at + 1 else next) xs d)
        ∙ ap (λ e. on_end e (λ b. end_by (answer_of s) (acts (at + 1) (if b then at + 1 else next) xs d))) (tests_hold test d.split st i))

    tested_unless : (test : Test) (next : ℕ) (xs : List Act) (at : ℕ) (d : Reached) → StandsOn s d.split → of_test test (state_over d.split s) ≡ true
        → end_by (answer_of s) (acts at at (act.Unless test next ∷ xs) d) ≡ end_by (answer_of s) (acts (at + 1) (if holds t test (state_over d.split s) then next else at + 1) xs d)
    tested_unless test next xs at d st i =
        ap (end_by (answer_of s)) (acts_enter (act.Unless test next) xs at d)
        ∙ (end_then (answer_of s) (test_plan t test d.split) (λ b. acts (at + 1) (if b then next else at + 1) xs d)
        ∙ ap (λ e. on_end e (λ b. end_by (answer_of s) (acts (at + 1) (if b then next else at + 1) xs d))) (tests_hold test d.split st i))

    -- what a test guards, and then the rest of the plan and what comes behind it
    way_in : (plan rest : RowPlan) (c : ControlState) (d : Reached) (end : Result Came Crossing) (f : ControlState → Turn)
        → MatchesTurn s d end (and_then (meant plan c) (λ r. and_then (meant rest r) f)) → MatchesTurn s d end (and_then (and_then (meant plan c) (meant rest)) f)
    way_in plan rest c d end f m = subst (λ u. MatchesTurn s d end u) (then_then (meant plan c) (meant rest) f) m

    way_round : (rest : RowPlan) (d : Reached) (xs ys : List Act) (at next : ℕ) (f : ControlState → Turn) → StandsOn s d.split → at + 1 + length xs ≡ next
        → MatchesTurn s d (end_by (answer_of s) (acts next next ys d)) (and_then (meant rest (state_over d.split s)) f)
        → MatchesTurn s d (end_by (answer_of s) (acts (at + 1) next (xs ++ ys) d)) (and_then (and_then (goes_on (unchanged (state_over d.split s))) (meant rest)) f)
    way_round rest d xs ys at next f st e m =
        let c = state_over d.split s in
        subst (λ u. MatchesTurn s d (end_by (answer_of s) (acts (at + 1) next (xs ++ ys) d)) u) (then_then (goes_on (unchanged c)) (meant rest) f)
        (matches_before s d d (unchanged c) (end_by (answer_of s) (acts (at + 1) next (xs ++ ys) d)) (and_then (meant rest c) f) (nothing_handled s d st)
        (subst (λ p. MatchesTurn s d (end_by (answer_of s) p) (and_then (meant rest c) f)) (sym (acts_skip xs ys (at + 1) next d e)) m))

    pub plan_matches : (plan : RowPlan) (at k : ℕ) (more : List Act) (v : Course) (d : Reached) (next last : Course → Bool) (f : ControlState → Turn) (suits : ControlState → Bool)
        → has_row_acts plan ≡ true → at + length (acts_from at plan) ≡ k → StandsOn s d.split → Along v n (state_over d.split s)
        → plan_passes from (kind_of t) follow_passes present_passes plan v next last ≡ true → fine plan suits (state_over d.split s) ≡ true → Rests (acts k k more) f next suits
        → MatchesTurn s d (end_by (answer_of s) (acts at at (acts_from at plan ++ more) d)) (and_then (meant plan (state_over d.split s)) f)
    plan_matches ends at k more v d next last f suits p e st g h i rest =
        let same : k ≡ at = omega arith in
        let c = state_over d.split s in
        matches_before s d d (unchanged c) (end_by (answer_of s) (acts at at more d)) (f c) (nothing_handled s d st)
        (subst (λ j. MatchesTurn s d (end_by (answer_of s) (acts j j more d)) (f c)) same (rest v d st g h i))
    plan_matches (a ⨾ plan) at k more v d next last f suits p e st g h i rest =
        let parts = and_parts (is_row_act a) (has_row_acts plan) p in
        let c = state_over d.split s in
        let xs = acts_from (at + 1) plan ++ more in
        let suit = and_parts (act_fine a c) (while_own s (carry follow present fostering t a c) (fine plan suits)) i in
        subst (λ x. MatchesTurn s d (end_by (answer_of s) x) (and_then (and_then (carry follow present fostering t a c) (meant plan)) f)) (sym (acts_enter a xs at d))
        (subst (λ u. MatchesTurn s d (end_by (answer_of s) (one_act a at (λ place. acts (at + 1) place xs) d)) u) (then_then (carry follow present fostering t a c) (meant plan) f)
        (act_matches a at (λ place. acts (at + 1) place xs) v d (λ w. plan_passes from (kind_of t) follow_passes present_passes plan w next last) last (λ r. and_then (meant plan r) f) (fine plan suits) parts.0 st g h suit.0 suit.1
        (λ w r st2 g2 h2 i2. plan_matches plan (at + 1) k more w r next last f suits parts.1 (omega arith) st2 g2 h2 i2 rest)))
    plan_matches (when test plan others) at k more v d next last f suits p e st g h i rest =
        let inner = acts_from (at + 1) plan in
        let place = at + 1 + length inner in
        let tail = acts_from place others in
        let ended : place + length tail ≡ k = omega (arith, length-append inner tail, e) in
        let parts = and_parts (has_row_acts plan) (has_row_acts others) p in
        let passed = and_parts (plan_passes from (kind_of t) follow_passes present_passes plan (assume test v) (λ w. plan_passes from (kind_of t) follow_passes present_passes others w next last) last) _ h in
        let suit = and_parts (of_test test (state_over d.split s)) _ i in
        subst (λ xs. MatchesTurn s d (end_by (answer_of s) (acts at at (act.If test place ∷ xs) d)) (and_then (meant (when test plan others) (state_over d.split s)) f)) (sym (append_assoc inner tail more))
        (subst (λ x. MatchesTurn s d x (and_then (meant (when test plan others) (state_over d.split s)) f)) (sym (tested_if test place (inner ++ (tail ++ more)) at d st suit.0))
        (go inner tail place (holds t test (state_over d.split s)) refl passed.0 passed.1 refl suit.1
        (λ g2 h2 i2. plan_matches plan (at + 1) place (tail ++ more) (assume test v) d (λ w. plan_passes from (kind_of t) follow_passes present_passes others w next last) last (λ r. and_then (meant others r) f) (fine others suits) parts.0 refl st g2 h2 i2
        (λ w r st3 g3 h3 i3. plan_matches others place k more w r next last f suits parts.1 ended st3 g3 h3 i3 rest))
        (λ h2 i2. plan_matches others place k more v d next last f suits parts.1 ended st g h2 i2 rest)))
      where
        go : (inner tail : List Act) (place : ℕ) (b : Bool) → holds t test (state_over d.split s) ≡ b
            → plan_passes from (kind_of t) follow_passes present_passes plan (assume test v) (λ w. plan_passes from (kind_of t) follow_passes present_passes others w next last) last ≡ true
            → plan_passes from (kind_of t) follow_passes present_passes others v next last ≡ true
            → at + 1 + length inner ≡ place
            → (if b then fine plan (fine others suits) (state_over d.split s) else fine others suits (state_over d.split s)) ≡ true
            → (Along (assume test v) n (state_over d.split s) → plan_passes from (kind_of t) follow_passes present_passes plan (assume test v) (λ w. plan_passes from (kind_of t) follow_passes present_passes others w next last) last ≡ true
            → fine plan (fine others suits) (state_over d.split s) ≡ true
            → MatchesTurn s d (end_by (answer_of s) (acts (at + 1) (at + 1) (inner ++ (tail ++ more)) d)) (and_then (meant plan (state_over d.split s)) (λ r. and_then (meant others r) f)))
            → (plan_passes from (kind_of t) follow_passes present_passes others v next last ≡ true → fine others suits (state_over d.split s) ≡ true
            → MatchesTurn s d (end_by (answer_of s) (acts place place (tail ++ more) d)) (and_then (meant others (state_over d.split s)) f))
            → MatchesTurn s d (end_by (answer_of s) (acts (at + 1) (if b then at + 1 else place) (inner ++ (tail ++ more)) d))
            (and_then (and_then (if b then meant plan (state_over d.split s) else goes_on (unchanged (state_over d.split s))) (meant others)) f)
        go inner tail place true e2 p2 q2 l2 i2 in_it round = way_in plan others (state_over d.split s) d (end_by (answer_of s) (acts (at + 1) (at + 1) (inner ++ (tail ++ more)) d)) f (in_it (assumed from n t read test v (state_over d.split s) g e2) p2 i2)
        go inner tail place false e2 p2 q2 l2 i2 in_it round = way_round others d inner (tail ++ more) at place f st l2 (round q2 i2)
    plan_matches (unless test plan others) at k more v d next last f suits p e st g h i rest =
        let inner = acts_from (at + 1) plan in
        let place = at + 1 + length inner in
        let tail = acts_from place others in
        let ended : place + length tail ≡ k = omega (arith, length-append inner tail, e) in
        let parts = and_parts (has_row_acts plan) (has_row_acts others) p in
        let passed = and_parts (plan_passes from (kind_of t) follow_passes present_passes others (assume test v) next last) _ h in
        let suit = and_parts (of_test test (state_over d.split s)) _ i in
        subst (λ xs. MatchesTurn s d (end_by (answer_of s) (acts at at (act.Unless test place ∷ xs) d)) (and_then (meant (unless test plan others) (state_over d.split s)) f)) (sym (append_assoc inner tail more))
        (subst (λ x. MatchesTurn s d x (and_then (meant (unless test plan others) (state_over d.split s)) f)) (sym (tested_unless test place (inner ++ (tail ++ more)) at d st suit.0))
        (go inner tail place (holds t test (state_over d.split s)) refl passed.0 passed.1 refl suit.1
        (λ h2 i2. plan_matches plan (at + 1) place (tail ++ more) v d (λ w. plan_passes from (kind_of t) follow_passes present_passes others w next last) last (λ r. and_then (meant others r) f) (fine others suits) parts.0 refl st g h2 i2
        (λ w r st3 g3 h3 i3. plan_matches others place k more w r next last f suits parts.1 ended st3 g3 h3 i3 rest))
        (λ g2 h2 i2. plan_matches others place k more (assume test v) d next last f suits parts.1 ended st g2 h2 i2 rest)))
      where
        go : (inner tail : List Act) (place : ℕ) (b : Bool) → holds t test (state_over d.split s) ≡ b
            → plan_passes from (kind_of t) follow_passes present_passes others (assume test v) next last ≡ true
            → plan_passes from (kind_of t) follow_passes present_passes plan v (λ w. plan_passes from (kind_of t) follow_passes present_passes others w next last) last ≡ true
            → at + 1 + length inner ≡ place
            → (if b then fine others suits (state_over d.split s) else fine plan (fine others suits) (state_over d.split s)) ≡ true
            → (plan_passes from (kind_of t) follow_passes present_passes plan v (λ w. plan_passes from (kind_of t) follow_passes present_passes others w next last) last ≡ true → fine plan (fine others suits) (state_over d.split s) ≡ true
            → MatchesTurn s d (end_by (answer_of s) (acts (at + 1) (at + 1) (inner ++ (tail ++ more)) d)) (and_then (meant plan (state_over d.split s)) (λ r. and_then (meant others r) f)))
            → (Along (assume test v) n (state_over d.split s) → plan_passes from (kind_of t) follow_passes present_passes others (assume test v) next last ≡ true → fine others suits (state_over d.split s) ≡ true
            → MatchesTurn s d (end_by (answer_of s) (acts place place (tail ++ more) d)) (and_then (meant others (state_over d.split s)) f))
            → MatchesTurn s d (end_by (answer_of s) (acts (at + 1) (if b then place else at + 1) (inner ++ (tail ++ more)) d))
            (and_then (and_then (if b then goes_on (unchanged (state_over d.split s)) else meant plan (state_over d.split s)) (meant others)) f)
        go inner tail place true e2 p2 q2 l2 i2 in_it round = way_round others d inner (tail ++ more) at place f st l2 (round (assumed from n t read test v (state_over d.split s) g e2) p2 i2)
        go inner tail place false e2 p2 q2 l2 i2 in_it round = way_in plan others (state_over d.split s) d (end_by (answer_of s) (acts (at + 1) (at + 1) (inner ++ (tail ++ more)) d)) f (in_it q2 i2)

    -- a row, from its first act on
    pub row_matches : (plan : RowPlan) (v : Course) (d : Reached) (next last : Course → Bool) → has_row_acts plan ≡ true → StandsOn s d.split → Along v n (state_over d.split s)
        → plan_passes from (kind_of t) follow_passes present_passes plan v next last ≡ true → fine plan nothing_missing (state_over d.split s) ≡ true
        → MatchesTurn s d (end_by (answer_of s) (acts 0 0 (acts_from 0 plan) d)) (meant plan (state_over d.split s))
    row_matches plan v d next last p st g h i =
        let c = state_over d.split s in
        subst (λ u. MatchesTurn s d (end_by (answer_of s) (acts 0 0 (acts_from 0 plan) d)) u) (then_nothing (meant plan c))
        (subst (λ xs. MatchesTurn s d (end_by (answer_of s) (acts 0 0 xs d)) (and_then (meant plan c) (λ r. goes_on (unchanged r)))) (append-nil (acts_from 0 plan))
        (plan_matches plan 0 (0 + length (acts_from 0 plan)) [] v d next last (λ r. goes_on (unchanged r)) nothing_missing p refl st g h i (λ w e st2 g2 h2 i2. nothing_handled s e st2)))

  -- the rules of a mode
  pub rules_match : (depth : ℕ) (fostering : Bool) (m : Mode) (v : Course) (d : Reached) (next : Course → Bool) → StandsOn s d.split → Along v n (state_over d.split s) → rules_pass from (kind_of t) depth m v next ≡ true
      → rules_suit s of_act of_test t depth fostering m (state_over d.split s) ≡ true
      → MatchesTurn s d (end_by (answer_of s) (rules_plan depth t fostering m d)) (rules depth t fostering m (state_over d.split s))
  unfolding rules_plan rules rules_pass rules_suit
  rules_match zero fostering m v d next st g h i = nothing_handled s d st
  rules_match (suc depth) fostering m v d next st g h i =
      row_matches (rules depth t) nothing_left (rules_plan depth t) nothing_more (rules_pass from (kind_of t) depth) (λ w k. k w)
      (rules_meet from n t read depth) (λ w r k g2 h2. (w, (g2, h2))) (rules_suit s of_act of_test t depth) nothing_missing (rules_match depth) (λ w e k st2 g2 h2 i2. nothing_handled s e st2) fostering
      (plan_for (every_mode_rows m) (kind_of t)) v d next next (rows_for (every_mode_rows m) (kind_of t) (mode_rows m)) st g h i
