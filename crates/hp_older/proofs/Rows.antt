-- A row that passes the test is told up to the first act that touches something older, and where nothing is touched it ends on a
-- track that goes on: by each way through it, and through the rows that it uses.
use Rattle.std.proofs.Common.{◌≡◌, ℕ, zero, suc, ◌<◌, drop, map, Bool, true, false, ◌||◌, ◌&&◌, not, refl, sym, ap, subst, arith, inl, inr, Option, None, Some}
use Rattle.std.specs.Prelude.{if◌then◌else◌, ◌⊎◌}
use Rattle.std.proofs.lemmas.Bool.{and_parts, and_from, true≢false}
use Rattle.hp_elements.specs.Rules.{Plan, ends, ◌⨾◌, when, unless, plan_for}
use Rattle.hp_elements.specs.Tokens.{kind_of}
use Rattle.hp_elements.specs.declared.act.Act.{Act}
use Rattle.hp_elements.specs.declared.act.Act.TheVariants as act
use Rattle.hp_elements.specs.declared.act.Test.{Test}
use Rattle.hp_elements.specs.declared.token.Mode.{Mode}
use Rattle.hp_elements.specs.declared.token.Token.{Token}
use Rattle.hp_rules_rest.specs.Whole.{every_mode_rows}
use Rattle.hp_control.specs.Apply.{shifted}
use Rattle.hp_control.specs.Faithful.{IsBase, Page, Split, StandsOn, state_over}
use Rattle.hp_control.specs.Nothing.{nothing}
use Rattle.hp_control.specs.Outcome.{touches_any}
use Rattle.hp_control.specs.States.{ControlState, is_rooted}
use Rattle.hp_views.specs.StackLaws.{full_stack}
use Rattle.hp_model.specs.Finding.{nothing_missing}
use Rattle.hp_model.specs.Rows.{carry, carry_plan, nothing_more, rules}
use Rattle.hp_model.specs.Steps.{holds, step}
use Rattle.hp_model.specs.Turns.{Turn, goes_on, and_then, unchanged}
use Rattle.hp_model.specs.Whole.{IsRead}
use Rattle.hp_model.proofs.Course.{Course, fits}
use Rattle.hp_model.proofs.Course as course
use Rattle.hp_model.proofs.Passes.{fixed}
use Rattle.hp_model.proofs.Stacks.{rooted-append, rooted-drop}
use Rattle.hp_model.proofs.Walking.{assumed}
use Rattle.hp_acts.specs.Suiting.{act_suits, plan_suits, rules_suit, while_own}
use Rattle.hp_acts.specs.Told.{is_act_told, is_test_told, reads_told}
use Rattle.hp_older.proofs.Going.{Here, Leads, act_leads, assume_on, deny_on, leads_before, leads_part, leads_then, rest_told, test_told}
use Rattle.hp_older.proofs.Leading.{touching_did}
use Rattle.hp_older.proofs.Steps.{Asks, act_goes, can_test, is_ending, plan_goes, rules_go, touches, track_after, track_assume, track_deny, track_fits}
use Rattle.hp_older.proofs.Track.{Track}

none_made : (x : ControlState) → x ≡ nothing → 0 < x.next → ⊥
none_made x e h = let none : x.next ≡ 0 = ap (λ (y : ControlState). y.next) e in absurd (omega (arith, h, none))

-- a view's stack has its root
pub rooted_view : (s : ControlState) (d : Split) → 0 < s.next → StandsOn s d → is_rooted (state_over d s).stack ≡ true
rooted_view s d first st = subst (λ es. is_rooted es ≡ true) (sym (full_stack s d)) (rooted-append (map (shifted s.next) d.change.stack) (drop d.change.popped s.stack) (go d.page st.base))
  where
    go : (page : Option Page) → IsBase page d.change s → is_rooted (drop d.change.popped s.stack) ≡ true
    go None b = rooted-drop d.change.popped s.stack b.left b.rooted
    go (Some p) b = absurd (none_made s b first)

pub or_rest : (a b : Bool) → a ≡ false → (a || b) ≡ true → b ≡ true
or_rest false b e h = h
or_rest true b e h = absurd (true≢false e)

touching_reads : (s : ControlState) (a : Act) (c : ControlState) → touches a ≡ true → reads_told s a c ≡ true
touching_reads s act.AddMissingToFirst c h = refl
touching_reads s act.AddMissingToBody c h = refl
touching_reads s act.DetachBody c h = refl
touching_reads s _ c h = absurd (true≢false (sym h))

module _ (s : ControlState) (first : 0 < s.next) (n : ℕ) (t : Token) (read : IsRead t) (inside : is_ending (kind_of t) ≡ false) where
  abbrev Stands : Asks → ControlState → Type 0
  Stands next c = Here s n next c

  rooted_here : (next : Asks) (c : ControlState) → Stands next c → is_rooted c.stack ≡ true
  rooted_here next c p = subst (λ x. is_rooted x.stack ≡ true) p.is (rooted_view s p.view first p.stands)

  -- where a test holds, and where it doesn't
  here_assumed : (x : Test) (c : ControlState) (asks next : Asks) → (p : Stands asks c) → holds t x c ≡ true → next (course.assume x p.course) (track_assume (kind_of t) x p.track) ≡ true → Stands next c
  here_assumed x c asks next p e h = record { course = course.assume x p.course; track = track_assume (kind_of t) x p.track; view = p.view; stands = p.stands; is = p.is; along = assumed (fixed 0) n t read x p.course c p.along e; on = assume_on s t x p.track c (rooted_here asks c p) p.on e; asked = h }

  here_denied : (x : Test) (c : ControlState) (asks next : Asks) → (p : Stands asks c) → holds t x c ≡ false → next p.course (track_deny x p.track) ≡ true → Stands next c
  here_denied x c asks next p e h = record { course = p.course; track = track_deny x p.track; view = p.view; stands = p.stands; is = p.is; along = p.along; on = deny_on s t x p.track c (rooted_here asks c p) p.on e; asked = h }

  module _ (follow : Bool → Mode → ControlState → Turn) (present : ControlState → Turn)
      (follow_goes : Mode → Course → Track → Asks → Bool) (present_goes : Course → Track → Asks → Bool)
      (follow_leads : (f : Bool) (m : Mode) (c : ControlState) (next : Asks) → Stands (λ v w. follow_goes m v w next) c → Leads s first n next next (follow f m c))
      (present_leads : (c : ControlState) (next : Asks) → Stands (λ v w. present_goes v w next) c → Leads s first n next next (present c))
      (follow_suits : Bool → Mode → ControlState → Bool) (present_suits : ControlState → Bool)
      (follow_told : (f : Bool) (m : Mode) (c : ControlState) (next : Asks) → Stands (λ v w. follow_goes m v w next) c → follow_suits f m c ≡ true)
      (present_told : (c : ControlState) (next : Asks) → Stands (λ v w. present_goes v w next) c → present_suits c ≡ true)
      (fostering : Bool) where
    abbrev a_goes : Act → Asks → Asks → Asks
    a_goes a next last v w = act_goes (kind_of t) follow_goes present_goes a v w next last

    abbrev p_goes : Plan → Asks → Asks → Asks
    p_goes plan next last v w = plan_goes (kind_of t) follow_goes present_goes plan v w next last

    abbrev asked_of : Act → Asks → Course → Track → Bool
    asked_of a next v w = touches a || (fits (kind_of t) a v && (track_fits (kind_of t) a w && next (course.after (kind_of t) a v) (track_after (kind_of t) a w)))

    other_leads : (a : Act) (c : ControlState) (next : Asks) → Stands (asked_of a next) c → (touches_any s (step fostering t a c) ≡ true) ⊎ Here s n next (step fostering t a c).control
    other_leads a c next p = go (touches a) refl
      where
        go : (b : Bool) → touches a ≡ b → (touches_any s (step fostering t a c) ≡ true) ⊎ Here s n next (step fostering t a c).control
        go true e = inl (touching_did s fostering t a c first e).1
        go false e = (act_leads s first n t read fostering a c (asked_of a next) next p e (or_rest (touches a) _ e p.asked)).1

    other_told : (a : Act) (c : ControlState) (next : Asks) → Stands (asked_of a next) c → is_act_told s fostering t a c ≡ true
    other_told a c next p = go (touches a) refl
      where
        go : (b : Bool) → touches a ≡ b → is_act_told s fostering t a c ≡ true
        go true e = and_from (reads_told s a c) (not (step fostering t a c).spared) (touching_reads s a c e) (ap not (touching_did s fostering t a c first e).0)
        go false e = (act_leads s first n t read fostering a c (asked_of a next) next p e (or_rest (touches a) _ e p.asked)).0

    one_leads : (a : Act) (c : ControlState) (next last : Asks) → Stands (a_goes a next last) c → Leads s first n next last (carry follow present fostering t a c)
    one_leads act.Done c next last p = inr p
    one_leads act.Again c next last p = inr (p, inside)
    one_leads (act.AgainAs k) c next last p = inr (p, refl)
    one_leads (act.As m) c next last p = leads_part s first n (follow fostering m c) next last (follow_leads fostering m c next p)
    one_leads (act.AsFostered m) c next last p = leads_part s first n (follow true m c) next last (follow_leads true m c next p)
    one_leads act.AsPresent c next last p = leads_part s first n (present c) next last (present_leads c next p)
    one_leads act.Stop c next last p = inr p
    one_leads (act.Lexer rest) c next last p = inr p
    one_leads other c next last p = other_leads other c next p

    one_told : (a : Act) (c : ControlState) (next last : Asks) → Stands (a_goes a next last) c → act_suits s (is_act_told s) (is_test_told s) t follow present follow_suits present_suits fostering a c ≡ true
    one_told act.Done c next last p = refl
    one_told act.Again c next last p = refl
    one_told (act.AgainAs k) c next last p = refl
    one_told (act.As m) c next last p = follow_told fostering m c next p
    one_told (act.AsFostered m) c next last p = follow_told true m c next p
    one_told act.AsPresent c next last p = present_told c next p
    one_told act.Stop c next last p = refl
    one_told (act.Lexer rest) c next last p = refl
    one_told other c next last p = other_told other c next p

    pub plan_leads : (plan : Plan) (c : ControlState) (next last : Asks) → Stands (p_goes plan next last) c → Leads s first n next last (carry_plan follow present fostering t plan c)
    plan_leads ends c next last p = inr p
    plan_leads (a ⨾ plan) c next last p =
        leads_then s first n (carry follow present fostering t a c) (carry_plan follow present fostering t plan) (p_goes plan next last) next last (one_leads a c (p_goes plan next last) last p) (λ d q. plan_leads plan d next last q)
    plan_leads (when x plan rest) c next last p =
        let parts = and_parts (p_goes plan (p_goes rest next last) last (course.assume x p.course) (track_assume (kind_of t) x p.track)) (p_goes rest next last p.course (track_deny x p.track)) (and_parts (can_test x) _ p.asked).1 in
        go (holds t x c) refl (λ q. plan_leads plan c (p_goes rest next last) last q) (λ d q. plan_leads rest d next last q) parts.0 parts.1
      where
        go : (b : Bool) → holds t x c ≡ b → (Stands (p_goes plan (p_goes rest next last) last) c → Leads s first n (p_goes rest next last) last (carry_plan follow present fostering t plan c))
            → ((d : ControlState) → Stands (p_goes rest next last) d → Leads s first n next last (carry_plan follow present fostering t rest d))
            → p_goes plan (p_goes rest next last) last (course.assume x p.course) (track_assume (kind_of t) x p.track) ≡ true → p_goes rest next last p.course (track_deny x p.track) ≡ true
            → Leads s first n next last (and_then (if b then carry_plan follow present fostering t plan c else goes_on (unchanged c)) (carry_plan follow present fostering t rest))
        go true e inner on h k = leads_then s first n (carry_plan follow present fostering t plan c) (carry_plan follow present fostering t rest) (p_goes rest next last) next last (inner (here_assumed x c (p_goes (when x plan rest) next last) (p_goes plan (p_goes rest next last) last) p e h)) on
        go false e inner on h k = leads_before s first n (unchanged c) (carry_plan follow present fostering t rest c) next last (on c (here_denied x c (p_goes (when x plan rest) next last) (p_goes rest next last) p e k))
    plan_leads (unless x plan rest) c next last p =
        let parts = and_parts (p_goes rest next last (course.assume x p.course) (track_assume (kind_of t) x p.track)) (p_goes plan (p_goes rest next last) last p.course (track_deny x p.track)) (and_parts (can_test x) _ p.asked).1 in
        go (holds t x c) refl (λ q. plan_leads plan c (p_goes rest next last) last q) (λ d q. plan_leads rest d next last q) parts.0 parts.1
      where
        go : (b : Bool) → holds t x c ≡ b → (Stands (p_goes plan (p_goes rest next last) last) c → Leads s first n (p_goes rest next last) last (carry_plan follow present fostering t plan c))
            → ((d : ControlState) → Stands (p_goes rest next last) d → Leads s first n next last (carry_plan follow present fostering t rest d))
            → p_goes rest next last (course.assume x p.course) (track_assume (kind_of t) x p.track) ≡ true → p_goes plan (p_goes rest next last) last p.course (track_deny x p.track) ≡ true
            → Leads s first n next last (and_then (if b then goes_on (unchanged c) else carry_plan follow present fostering t plan c) (carry_plan follow present fostering t rest))
        go true e inner on h k = leads_before s first n (unchanged c) (carry_plan follow present fostering t rest c) next last (on c (here_assumed x c (p_goes (unless x plan rest) next last) (p_goes rest next last) p e h))
        go false e inner on h k = leads_then s first n (carry_plan follow present fostering t plan c) (carry_plan follow present fostering t rest) (p_goes rest next last) next last (inner (here_denied x c (p_goes (unless x plan rest) next last) (p_goes plan (p_goes rest next last) last) p e k)) on

    abbrev suit : Plan → (ControlState → Bool) → ControlState → Bool
    suit = plan_suits s (is_act_told s) (is_test_told s) t follow present follow_suits present_suits fostering

    pub plan_told : (plan : Plan) (c : ControlState) (rest : ControlState → Bool) (next last : Asks) → Stands (p_goes plan next last) c → ((d : ControlState) → Stands next d → rest d ≡ true) → suit plan rest c ≡ true
    plan_told ends c rest next last p f = f c p
    plan_told (a ⨾ plan) c rest next last p f =
        and_from (act_suits s (is_act_told s) (is_test_told s) t follow present follow_suits present_suits fostering a c) (while_own s (carry follow present fostering t a c) (suit plan rest)) (one_told a c (p_goes plan next last) last p)
        (rest_told s first n (carry follow present fostering t a c) (suit plan rest) (p_goes plan next last) last (one_leads a c (p_goes plan next last) last p) (λ d q. plan_told plan d rest next last q f))
    plan_told (when x plan others) c rest next last p f =
        let first_part = and_parts (can_test x) _ p.asked in
        let parts = and_parts (p_goes plan (p_goes others next last) last (course.assume x p.course) (track_assume (kind_of t) x p.track)) (p_goes others next last p.course (track_deny x p.track)) first_part.1 in
        and_from (is_test_told s x c) (if holds t x c then suit plan (suit others rest) c else suit others rest c) (test_told s x c first_part.0)
        (go (holds t x c) refl (λ q. plan_told plan c (suit others rest) (p_goes others next last) last q (λ d z. plan_told others d rest next last z f)) (λ q. plan_told others c rest next last q f) parts.0 parts.1)
      where
        go : (b : Bool) → holds t x c ≡ b → (Stands (p_goes plan (p_goes others next last) last) c → suit plan (suit others rest) c ≡ true) → (Stands (p_goes others next last) c → suit others rest c ≡ true)
            → p_goes plan (p_goes others next last) last (course.assume x p.course) (track_assume (kind_of t) x p.track) ≡ true → p_goes others next last p.course (track_deny x p.track) ≡ true
            → (if b then suit plan (suit others rest) c else suit others rest c) ≡ true
        go true e inner on h k = inner (here_assumed x c (p_goes (when x plan others) next last) (p_goes plan (p_goes others next last) last) p e h)
        go false e inner on h k = on (here_denied x c (p_goes (when x plan others) next last) (p_goes others next last) p e k)
    plan_told (unless x plan others) c rest next last p f =
        let first_part = and_parts (can_test x) _ p.asked in
        let parts = and_parts (p_goes others next last (course.assume x p.course) (track_assume (kind_of t) x p.track)) (p_goes plan (p_goes others next last) last p.course (track_deny x p.track)) first_part.1 in
        and_from (is_test_told s x c) (if holds t x c then suit others rest c else suit plan (suit others rest) c) (test_told s x c first_part.0)
        (go (holds t x c) refl (λ q. plan_told plan c (suit others rest) (p_goes others next last) last q (λ d z. plan_told others d rest next last z f)) (λ q. plan_told others c rest next last q f) parts.0 parts.1)
      where
        go : (b : Bool) → holds t x c ≡ b → (Stands (p_goes plan (p_goes others next last) last) c → suit plan (suit others rest) c ≡ true) → (Stands (p_goes others next last) c → suit others rest c ≡ true)
            → p_goes others next last (course.assume x p.course) (track_assume (kind_of t) x p.track) ≡ true → p_goes plan (p_goes others next last) last p.course (track_deny x p.track) ≡ true
            → (if b then suit others rest c else suit plan (suit others rest) c) ≡ true
        go true e inner on h k = on (here_assumed x c (p_goes (unless x plan others) next last) (p_goes others next last) p e h)
        go false e inner on h k = inner (here_denied x c (p_goes (unless x plan others) next last) (p_goes plan (p_goes others next last) last) p e k)

  pub rules_lead : (depth : ℕ) (f : Bool) (m : Mode) (c : ControlState) (next : Asks) → Stands (λ v w. rules_go (kind_of t) depth m v w next) c → Leads s first n next next (rules depth t f m c)
  unfolding rules rules_go
  rules_lead zero f m c next p = inr p
  rules_lead (suc depth) f m c next p =
      plan_leads (rules depth t) nothing_more (rules_go (kind_of t) depth) (λ x y k. k x y) (rules_lead depth) (λ d k q. inr q) (λ f2 m2 d. true) (λ d. true) (λ f2 m2 d k q. refl) (λ d k q. refl) f (plan_for (every_mode_rows m) (kind_of t)) c next next p

  pub rules_told : (depth : ℕ) (f : Bool) (m : Mode) (c : ControlState) (next : Asks) → Stands (λ v w. rules_go (kind_of t) depth m v w next) c → rules_suit s (is_act_told s) (is_test_told s) t depth f m c ≡ true
  unfolding rules rules_go rules_suit
  rules_told zero f m c next p = refl
  rules_told (suc depth) f m c next p =
      plan_told (rules depth t) nothing_more (rules_go (kind_of t) depth) (λ x y k. k x y) (rules_lead depth) (λ d k q. inr q) (rules_suit s (is_act_told s) (is_test_told s) t depth) nothing_missing (rules_told depth) (λ d k q. refl) f (plan_for (every_mode_rows m) (kind_of t)) c nothing_missing next next p (λ d q. refl)
