-- The short way of a run of text comes to the same as the rows.
use Rattle.std.proofs.Common.{◌≡◌, ℕ, suc, ◌-◌, ◌<◌, true, false, List, [], ◌∷◌, Option, Some, None, Result, Ok, Err, length, refl, ap, sym, subst, ◌∙◌, arith}
use Rattle.std.specs.Prelude.{Bool, if◌then◌else◌, not, ◌||◌, ◌&&◌, ◌==◌, ◌++◌}
use Rattle.std.specs.List.{list_all}
use Rattle.std.specs.Result.{IsErrAnd}
use Rattle.std.proofs.lemmas.Bool.{eqb-true}
use Rattle.hp_elements.specs.declared.token.CharClass.{CharClass}
use Rattle.hp_elements.specs.declared.token.CharClass.TheVariants.{White, Nul, Other}
use Rattle.hp_elements.specs.declared.kinds.Kinds.TheVariants as kinds
use Rattle.hp_elements.specs.declared.token.Kind.TheVariants as kind
use Rattle.hp_elements.specs.declared.token.Mode.{Mode}
use Rattle.hp_elements.specs.declared.token.Mode.TheVariants as mode
use Rattle.hp_elements.specs.declared.token.Token.{Token}
use Rattle.hp_elements.specs.declared.token.Token.TheVariants.{Characters}
use Rattle.hp_control.specs.declared.change.Refusal.{Refusal}
use Rattle.hp_control.specs.declared.change.Refusal.TheVariants.{Crossed, NoMemory}
use Rattle.hp_control.specs.declared.element.OpenElement.{OpenElement}
use Rattle.hp_control.specs.Faithful.{Page, Split}
use Rattle.hp_control.specs.Foreign.{enters, is_annotation, is_svg_start}
use Rattle.hp_control.specs.Plan.{Plan, gives, crosses, asks, asked_by, end_by, followed_by, Heard, Runs}
use Rattle.hp_control.specs.declared.question.Answer.{Answer}
use Rattle.hp_control.specs.declared.question.Crossing.{Crossing}
use Rattle.hp_control.specs.declared.question.Question.{Question}
use Rattle.hp_adoption.specs.ReconPlans.{reconstruct_plan}
use Rattle.hp_control.specs.declared.edit.Child.TheVariants as child
use Rattle.hp_control.specs.Running.{asked_then, on_asked, runs_crosses, runs_gives, runs_then}
use Rattle.hp_foreign.specs.Plans.{goes_on, goes_plan, unless_html}
use Rattle.hp_rules_rest.specs.Whole.{every_mode_rows}
use Rattle.hp_views.specs.FieldPlans.{frameset_plan}
use Rattle.hp_views.specs.PlacePlans.{put_plan}
use Rattle.hp_views.specs.StackPlans.{current_is_plan, current_on}
use Rattle.hp_views.specs.View.{Sight, Carries, Finds}
use Rattle.hp_model.specs.Texts.{as_run, has_html_top, is_text_mode, is_white, run_of, white_or_other}
use Rattle.hp_acts.specs.HandlePlans.{all_turns_plan, handle_plan, handle_rest, most_turns, turns_plan, where_again, without_line_feed}
use Rattle.hp_acts.specs.Handling.{Handles, nothing_asked, unskipped}
use Rattle.hp_acts.specs.Plain.{IsPlain, body_text_plan, is_nothing_open, is_run, may_take_text, put_text_plan, run_plan, takes_text, text_plan}
use Rattle.hp_acts.specs.RowPlans.{Reached, Came, left, changed, dispatched, is_early, mode_plan, rules_plan, turn_plan, where_left}
use Rattle.hp_acts.proofs.TurnRuns.{turn_by, turn_on, turns_next}

pub follow_assoc : {X Y Z : Type 0} (p : Plan X) (f : X → Plan Y) (g : Y → Plan Z) → followed_by (followed_by p f) g ≡ followed_by p (λ x. followed_by (f x) g)
follow_assoc (gives x) f g = refl
follow_assoc (crosses crossing) f g = refl
follow_assoc (asks q go) f g = ap (asks q) (λ i. λ a. follow_assoc (go a) f g i)

abbrev ended : Reached → Split → Plan Came
ended r v = gives (left (changed r v))

-- the rules of the body, used so deep
in_body : (depth : ℕ) (class : CharClass) (text : List ℕ) (r : Reached) → is_run (Characters class text) ≡ true → rules_plan (suc depth) (Characters class text) false mode.InBody r ≡ followed_by (body_text_plan class text r.split) (ended r)
unfolding rules_plan every_mode_rows
in_body depth White text r h = sym (follow_assoc (reconstruct_plan false r.split) (put_text_plan White text) (ended r))
in_body depth Nul text r h = absurd (cc)
in_body depth Other text r h =
    sym (follow_assoc (reconstruct_plan false r.split) (put_text_plan Other text) (ended r)
    ∙ ap (λ (next : Split → Plan Came). followed_by (reconstruct_plan false r.split) next) (λ i. λ w. follow_assoc (put_plan false (child.Text text) w) frameset_plan (ended r) i))

-- a row that only uses the rules of the body
through_body : (class : CharClass) (text : List ℕ) (r : Reached) → is_run (Characters class text) ≡ true → followed_by (rules_plan 3 (Characters class text) false mode.InBody r) (where_left (λ s. gives (left s))) ≡ followed_by (body_text_plan class text r.split) (ended r)
through_body class text r h =
    ap (λ p. followed_by p (where_left (λ s. gives (left s)))) (in_body 2 class text r h)
    ∙ follow_assoc (body_text_plan class text r.split) (ended r) (where_left (λ s. gives (left s)))

in_text : (class : CharClass) (text : List ℕ) (r : Reached) → is_run (Characters class text) ≡ true → rules_plan 4 (Characters class text) false mode.Text r ≡ followed_by (text_plan mode.Text class text r.split) (ended r)
unfolding rules_plan every_mode_rows
in_text White text r h = refl
in_text Nul text r h = absurd (cc)
in_text Other text r h = refl

cell_uses : (class : CharClass) (text : List ℕ) (r : Reached) → is_run (Characters class text) ≡ true → rules_plan 4 (Characters class text) false mode.InCell r ≡ followed_by (rules_plan 3 (Characters class text) false mode.InBody r) (where_left (λ s. gives (left s)))
unfolding rules_plan every_mode_rows
cell_uses White text r h = refl
cell_uses Nul text r h = absurd (cc)
cell_uses Other text r h = refl

caption_uses : (class : CharClass) (text : List ℕ) (r : Reached) → is_run (Characters class text) ≡ true → rules_plan 4 (Characters class text) false mode.InCaption r ≡ followed_by (rules_plan 3 (Characters class text) false mode.InBody r) (where_left (λ s. gives (left s)))
unfolding rules_plan every_mode_rows
caption_uses White text r h = refl
caption_uses Nul text r h = absurd (cc)
caption_uses Other text r h = refl

in_mode : (m : Mode) (class : CharClass) (text : List ℕ) (r : Reached) → is_text_mode m ≡ true → is_run (Characters class text) ≡ true → mode_plan (Characters class text) m r ≡ followed_by (text_plan m class text r.split) (ended r)
in_mode mode.InBody class text r m h = in_body 3 class text r h
in_mode mode.Text class text r m h = in_text class text r h
in_mode mode.InCell class text r m h = cell_uses class text r h ∙ through_body class text r h
in_mode mode.InCaption class text r m h = caption_uses class text r h ∙ through_body class text r h
in_mode _ class text r m h = absurd (cc)

not_early : (page : Option Page) (m : Mode) → is_text_mode m ≡ true → is_early page m ≡ false
not_early (Some page) m h = refl
not_early None mode.Text h = refl
not_early None mode.InBody h = refl
not_early None mode.InCell h = refl
not_early None mode.InCaption h = refl
not_early None _ h = absurd (cc)

-- text is no foreign content where the current node is an own HTML element
not_foreign : (class : CharClass) (v : Split) (stack : List OpenElement) → has_html_top stack ≡ true → goes_on (kind.Characters class) v stack ≡ gives false
not_foreign class v [] h = absurd (cc)
not_foreign class v (e ∷ es) h = ap gives (ap not (ap (λ b. false || b || enters e.point (kind.Characters class) || (is_annotation e && is_svg_start (kind.Characters class))) h))

run_turn : (class : CharClass) (text : List ℕ) (r : Reached) → is_run (Characters class text) ≡ true → is_text_mode r.split.change.mode ≡ true → has_html_top r.split.change.stack ≡ true → turn_plan (Characters class text) r ≡ followed_by (text_plan r.split.change.mode class text r.split) (ended r)
run_turn class text r run place top =
    turn_on (Characters class text) r (not_early r.split.page r.split.change.mode place)
    ∙ (ap (λ p. followed_by p (dispatched (Characters class text) r.split.change.mode r)) (not_foreign class r.split r.split.change.stack top)
    ∙ in_mode r.split.change.mode class text r place run)

abbrev done_with : Split → Plan Reached
done_with v = gives (record { split = v; handled = nothing_asked })

some_turns : (n : ℕ) (class : CharClass) (text : List ℕ) (r : Reached) → is_run (Characters class text) ≡ true → is_text_mode r.split.change.mode ≡ true → has_html_top r.split.change.stack ≡ true → 0 < n → turns_plan n (Characters class text) r ≡ followed_by (text_plan r.split.change.mode class text r.split) (λ v. gives (changed r v))
some_turns n class text r run place top few =
    let all : n ≡ n - 0 = omega arith in
    ap (λ k. turns_plan k (Characters class text) r) all
    ∙ (turns_next n 0 (Characters class text) r few
    ∙ (ap (λ p. followed_by p (where_again (turns_plan (n - 1)))) (run_turn class text r run place top)
    ∙ follow_assoc (text_plan r.split.change.mode class text r.split) (ended r) (where_again (turns_plan (n - 1)))))

pub run_alike : (t : Token) (v : Split) → IsPlain v t → all_turns_plan t v ≡ followed_by (run_plan t v) done_with
run_alike (Characters class text) v p = some_turns (most_turns v) class text (record { split = v; handled = nothing_asked }) p.run p.place p.top (omega arith)
run_alike _ v p = absurd (not_run p.run)
  where
    not_run : false ≡ true → ⊥
    not_run e = cc

pub no_run : (t : Token) → ((class : CharClass) (text : List ℕ) → t ≡ Characters class text → ⊥) → is_run t ≡ true → ⊥
no_run (Characters class text) other run = other class text refl
no_run _ other run = absurd (cc)

-- it was put there, and nothing is asked
pub plain_put : (a b : Heard) (t : Token) (v w : Split) → IsPlain v t → Runs a b (run_plan t v) (Ok w) → Runs a b (all_turns_plan t v) (Ok (record { split = w; handled = nothing_asked }))
plain_put a b t v w p run =
    let P : Plan Reached → Type 0 = λ plan. Runs a b plan (Ok (record { split = w; handled = nothing_asked })) in
    subst P (sym (run_alike t v p)) (runs_then done_with run (runs_gives b (record { split = w; handled = nothing_asked })))

pub plain_crosses : (a b : Heard) (t : Token) (v : Split) (crossing : Crossing) → IsPlain v t → Runs a b (run_plan t v) (Err crossing) → Runs a b (all_turns_plan t v) (Err crossing)
plain_crosses a b t v crossing p run =
    let P : Plan Reached → Type 0 = λ plan. Runs a b plan (Err crossing) in
    subst P (sym (run_alike t v p)) (runs_crosses done_with run)

-- it crosses there, or memory is wanting
pub plain_refused : (refused : Refusal) (old new : Sight) (t : Token) → IsPlain old.split t → Carries (Err refused) old new (run_plan t) → Handles (Err refused) old new (all_turns_plan t)
plain_refused (Crossed crossing) old new t p run = plain_crosses old.heard new.heard t old.split crossing p run
plain_refused NoMemory old new t p run = tt

-- the first of two calls was refused
pub first_refused : (refused : Refusal) (old new : Sight) (plan next : Split → Plan Split) → Carries (Err refused) old new plan → Carries (Err refused) old new (λ v. followed_by (plan v) next)
first_refused (Crossed crossing) old new plan next run = runs_crosses next run
first_refused NoMemory old new plan next run = tt

-- the text couldn't go there
pub put_failed : (result : Result (Unit {0}) Refusal) (refused : Refusal) (old new : Sight) (class : CharClass) (text : List ℕ) → IsErrAnd result (λ e. e ≡ refused) → Carries (Err refused) old new (put_plan false (child.Text text)) → Carries result old new (put_text_plan class text)
put_failed (Ok u) refused old new class text is run = absurd is
put_failed (Err e) refused old new class text is run =
    let P : Refusal → Type 0 = λ x. Carries (Err x) old new (put_text_plan class text) in
    subst P (sym is) (by_class class)
  where
    by_class : (class : CharClass) → Carries (Err refused) old new (put_text_plan class text)
    by_class White = run
    by_class Nul = run
    by_class Other = first_refused refused old new (put_plan false (child.Text text)) frameset_plan run

-- it went there, and the rules do nothing behind it
pub put_done : (a b : Heard) (class : CharClass) (text : List ℕ) (v w : Split) → (class ≡ Other → ⊥) → Runs a b (put_plan false (child.Text text) v) (Ok w) → Runs a b (put_text_plan class text v) (Ok w)
put_done a b White text v w other run = run
put_done a b Nul text v w other run = run
put_done a b Other text v w other run = absurd (other refl)

-- a text that is handled as one run
run_or_white : (white : Bool) (text : List ℕ) → is_run (run_of white text) ≡ true
run_or_white true text = refl
run_or_white false text = refl

record Taken (v : Split) : Type 0 where
  pub skips : v.change.skip_lf ≡ false
  pub place : is_text_mode v.change.mode ≡ true
  pub top : has_html_top v.change.stack ≡ true

both_hold : (a b : Bool) → (a && b) ≡ true → (a ≡ true) × (b ≡ true)
both_hold true true h = (refl, refl)
both_hold true false h = absurd (cc)
both_hold false b h = absurd (cc)

is_false : (a : Bool) → not a ≡ true → a ≡ false
is_false false h = refl
is_false true h = absurd (cc)

taken : (v : Split) → takes_text v ≡ true → Taken v
taken v h =
    let both = both_hold (not v.change.skip_lf && is_text_mode v.change.mode) (has_html_top v.change.stack) h in
    let first = both_hold (not v.change.skip_lf) (is_text_mode v.change.mode) both.0 in
    record { skips = is_false v.change.skip_lf first.0; place = first.1; top = both.1 }

text_plain : (white : Bool) (text : List ℕ) (v : Split) → takes_text v ≡ true → IsPlain v (run_of white text)
text_plain white text v h = record { run = run_or_white white text; place = (taken v h).place; top = (taken v h).top }

unskipped_plan : (t : Token) (v : Split) → takes_text v ≡ true → handle_plan t v ≡ all_turns_plan t v
unskipped_plan t v h = ap (λ b. if b then handle_rest (without_line_feed t) (unskipped v) else all_turns_plan t v) (taken v h).skips

pub text_put : (class : CharClass) (text : List ℕ) (old new : Sight) → takes_text old.split ≡ true → class ≡ white_or_other (list_all is_white text)
    → Carries (Ok tt) old new (λ v. text_plan v.change.mode class text v) → Handles (Ok nothing_asked) old new (handle_plan (as_run text))
text_put class text old new h is run =
    subst (λ plan. Runs old.heard new.heard plan (Ok (record { split = new.split; handled = nothing_asked }))) (sym (unskipped_plan (as_run text) old.split h))
    (plain_put old.heard new.heard (as_run text) old.split new.split (text_plain (list_all is_white text) text old.split h)
    (subst (λ k. Runs old.heard new.heard (text_plan old.split.change.mode k text old.split) (Ok new.split)) is run))

pub text_refused : (refused : Refusal) (class : CharClass) (text : List ℕ) (old new : Sight) → takes_text old.split ≡ true → class ≡ white_or_other (list_all is_white text)
    → Carries (Err refused) old new (λ v. text_plan v.change.mode class text v) → Handles (Err refused) old new (handle_plan (as_run text))
text_refused NoMemory class text old new h is run = tt
text_refused (Crossed crossing) class text old new h is run =
    subst (λ plan. Runs old.heard new.heard plan (Err crossing)) (sym (unskipped_plan (as_run text) old.split h))
    (plain_crosses old.heard new.heard (as_run text) old.split crossing (text_plain (list_all is_white text) text old.split h)
    (subst (λ k. Runs old.heard new.heard (text_plan old.split.change.mode k text old.split) (Err crossing)) is run))

-- three tests one behind the other
pub passes : (skip text value : Bool) → skip ≡ false → value ≡ text → value ≡ (not skip && text)
passes true text value skips is = absurd (cc)
passes false text value skips is = is

pub stops : (skip text value : Bool) → skip ≡ true → value ≡ not skip → value ≡ (not skip && text)
stops true text value skips is = is
stops false text value skips is = absurd (cc)

pub all_three : (skip text top value : Bool) → value ≡ (not skip && text) → value ≡ true → top ≡ (not skip && text && top)
all_three true text top value is holds = absurd (cc)
all_three false true top value is holds = refl
all_three false false top value is holds = absurd (cc)

pub not_both : (skip text top value : Bool) → value ≡ (not skip && text) → value ≡ false → value ≡ (not skip && text && top)
not_both true text top value is fails = is
not_both false true top value is fails = absurd (cc)
not_both false false top value is fails = is

-- the own stack is empty
pub none_open : (es : List OpenElement) → (length es == 0) ≡ is_nothing_open es
none_open [] = refl
none_open (e ∷ es) = by_test (length (e ∷ es) == 0) refl
  where
    by_test : (b : Bool) → (length (e ∷ es) == 0) ≡ b → b ≡ false
    by_test true h = let z : suc (length es) ≡ 0 = eqb-true (suc (length es)) 0 h in absurd (omega (arith, z))
    by_test false h = refl

-- the same where nothing own is open, and it was answered that the older current node is HTML
record MayTake (v : Split) : Type 0 where
  pub skips : v.change.skip_lf ≡ false
  pub place : is_text_mode v.change.mode ≡ true
  pub none : is_nothing_open v.change.stack ≡ true

may_take : (v : Split) → may_take_text v ≡ true → MayTake v
may_take v h =
    let both = both_hold (not v.change.skip_lf && is_text_mode v.change.mode) (is_nothing_open v.change.stack) h in
    let first = both_hold (not v.change.skip_lf) (is_text_mode v.change.mode) both.0 in
    record { skips = is_false v.change.skip_lf first.0; place = first.1; none = both.1 }

-- dispatch asks that first
html_first : (class : CharClass) (v : Split) (stack : List OpenElement) → is_nothing_open stack ≡ true → goes_on (kind.Characters class) v stack ≡ followed_by (current_on v.change.popped kinds.AnyHtml stack) (unless_html (kind.Characters class) v.change.popped)
html_first class v [] h = refl
html_first class v (e ∷ es) h = absurd (cc)

not_foreign_below : (a b : Heard) (class : CharClass) (v w : Split) → MayTake v → Finds (record { heard = a; split = v }) (record { heard = b; split = w }) (current_is_plan kinds.AnyHtml) true → Runs a b (goes_plan (kind.Characters class) v) (Ok false)
not_foreign_below a b class v w m f =
    let P : Plan Bool → Type 0 = λ plan. Runs a b plan (Ok false) in
    subst P (sym (html_first class v v.change.stack m.none)) (runs_then (unless_html (kind.Characters class) v.change.popped) f.runs (runs_gives b false))

abbrev at_first : Split → Reached
at_first v = record { split = v; handled = nothing_asked }

-- a turn after which the token is done, and one that crosses
one_turn : (a b : Heard) (t : Token) (v w : Split) → Runs a b (turn_plan t (at_first v)) (Ok (left (at_first w))) → Runs a b (all_turns_plan t v) (Ok (at_first w))
one_turn a b t v w run =
    let n = most_turns v in
    let all : n ≡ n - 0 = omega arith in
    let P : Plan Reached → Type 0 = λ plan. Runs a b plan (Ok (at_first w)) in
    subst P (sym (ap (λ k. turns_plan k t (at_first v)) all ∙ turns_next n 0 t (at_first v) (omega arith))) (runs_then (where_again (turns_plan (n - 1))) run (runs_gives b (at_first w)))

no_turn : (a b : Heard) (t : Token) (v : Split) (crossing : Crossing) → Runs a b (turn_plan t (at_first v)) (Err crossing) → Runs a b (all_turns_plan t v) (Err crossing)
no_turn a b t v crossing run =
    let n = most_turns v in
    let all : n ≡ n - 0 = omega arith in
    let P : Plan Reached → Type 0 = λ plan. Runs a b plan (Err crossing) in
    subst P (sym (ap (λ k. turns_plan k t (at_first v)) all ∙ turns_next n 0 t (at_first v) (omega arith))) (runs_crosses (where_again (turns_plan (n - 1))) run)

below_put : (a b c : Heard) (class : CharClass) (text : List ℕ) (v w x : Split) → is_run (Characters class text) ≡ true → MayTake v → Finds (record { heard = a; split = v }) (record { heard = b; split = w }) (current_is_plan kinds.AnyHtml) true
    → Runs b c (text_plan v.change.mode class text v) (Ok x) → Runs a c (all_turns_plan (Characters class text) v) (Ok (at_first x))
below_put a b c class text v w x run m f k =
    let P : Plan Came → Type 0 = λ plan. Runs b c plan (Ok (left (at_first x))) in
    one_turn a c (Characters class text) v x
    (turn_by (Ok false) a b c (Characters class text) (Characters class text) (at_first v) (at_first x) false (not_early v.page v.change.mode m.place) (not_foreign_below a b class v w m f)
    (subst P (sym (in_mode v.change.mode class text (at_first v) m.place run)) (runs_then (ended (at_first v)) k (runs_gives c (left (at_first x))))))

below_crosses : (a b c : Heard) (class : CharClass) (text : List ℕ) (v w : Split) (crossing : Crossing) → is_run (Characters class text) ≡ true → MayTake v → Finds (record { heard = a; split = v }) (record { heard = b; split = w }) (current_is_plan kinds.AnyHtml) true
    → Runs b c (text_plan v.change.mode class text v) (Err crossing) → Runs a c (all_turns_plan (Characters class text) v) (Err crossing)
below_crosses a b c class text v w crossing run m f k =
    let P : Plan Came → Type 0 = λ plan. Runs b c plan (Err crossing) in
    no_turn a c (Characters class text) v crossing
    (turn_by (Err (Crossed crossing)) a b c (Characters class text) (Characters class text) (at_first v) (at_first v) false (not_early v.page v.change.mode m.place) (not_foreign_below a b class v w m f)
    (subst P (sym (in_mode v.change.mode class text (at_first v) m.place run)) (runs_crosses (ended (at_first v)) k)))

unskipped_below : (t : Token) (v : Split) → MayTake v → handle_plan t v ≡ all_turns_plan t v
unskipped_below t v m = ap (λ b. if b then handle_rest (without_line_feed t) (unskipped v) else all_turns_plan t v) m.skips

pub text_put_below : (class : CharClass) (text : List ℕ) (old mid new : Sight) → may_take_text old.split ≡ true → Finds old mid (current_is_plan kinds.AnyHtml) true → class ≡ white_or_other (list_all is_white text)
    → Carries (Ok tt) mid new (λ v. text_plan v.change.mode class text v) → Handles (Ok nothing_asked) old new (handle_plan (as_run text))
text_put_below class text old mid new h f is run =
    let m = may_take old.split h in
    let at_once : Runs mid.heard new.heard (text_plan mid.split.change.mode (white_or_other (list_all is_white text)) text mid.split) (Ok new.split) = subst (λ k. Runs mid.heard new.heard (text_plan mid.split.change.mode k text mid.split) (Ok new.split)) is run in
    subst (λ plan. Runs old.heard new.heard plan (Ok (at_first new.split))) (sym (unskipped_below (as_run text) old.split m))
    (below_put old.heard mid.heard new.heard (white_or_other (list_all is_white text)) text old.split mid.split new.split (run_or_white (list_all is_white text) text) m f
    (subst (λ (v : Split). Runs mid.heard new.heard (text_plan v.change.mode (white_or_other (list_all is_white text)) text v) (Ok new.split)) f.same at_once))

pub text_refused_below : (refused : Refusal) (class : CharClass) (text : List ℕ) (old mid new : Sight) → may_take_text old.split ≡ true → Finds old mid (current_is_plan kinds.AnyHtml) true → class ≡ white_or_other (list_all is_white text)
    → Carries (Err refused) mid new (λ v. text_plan v.change.mode class text v) → Handles (Err refused) old new (handle_plan (as_run text))
text_refused_below NoMemory class text old mid new h f is run = tt
text_refused_below (Crossed crossing) class text old mid new h f is run =
    let m = may_take old.split h in
    let at_once : Runs mid.heard new.heard (text_plan mid.split.change.mode (white_or_other (list_all is_white text)) text mid.split) (Err crossing) = subst (λ k. Runs mid.heard new.heard (text_plan mid.split.change.mode k text mid.split) (Err crossing)) is run in
    subst (λ plan. Runs old.heard new.heard plan (Err crossing)) (sym (unskipped_below (as_run text) old.split m))
    (below_crosses old.heard mid.heard new.heard (white_or_other (list_all is_white text)) text old.split mid.split crossing (run_or_white (list_all is_white text) text) m f
    (subst (λ (v : Split). Runs mid.heard new.heard (text_plan v.change.mode (white_or_other (list_all is_white text)) text v) (Err crossing)) f.same at_once))

-- and before all else it is asked whether the older current node is HTML
pub record AsksFirst (says : Question → Answer) (v : Split) (plan : Plan Reached) : Type 0 where
  pub more : List Question
  pub first : asked_by says plan ≡ asked_by says (current_is_plan kinds.AnyHtml v) ++ more

pub asks_first : (says : Question → Answer) (class : CharClass) (text : List ℕ) (v : Split) → may_take_text v ≡ true → AsksFirst says v (handle_plan (Characters class text) v)
asks_first says class text v h = record {
  more = on_asked (end_by says (current_is_plan kinds.AnyHtml v)) (λ b. asked_by says (go b));
  first = ap (asked_by says) as_asked ∙ asked_then says (current_is_plan kinds.AnyHtml v) go;
}
  where
    m : MayTake v
    m = may_take v h

    t : Token
    t = Characters class text

    r : Reached
    r = at_first v

    n : ℕ
    n = most_turns v

    all : n ≡ n - 0
    all = omega arith

    next : Came → Plan Reached
    next = where_again (turns_plan (n - 1))

    go : Bool → Plan Reached
    go b = followed_by (followed_by (unless_html (kind.Characters class) v.change.popped b) (dispatched t v.change.mode r)) next

    as_asked : handle_plan t v ≡ followed_by (current_is_plan kinds.AnyHtml v) go
    as_asked =
        unskipped_below t v m
        ∙ (ap (λ k. turns_plan k t r) all
        ∙ (turns_next n 0 t r (omega arith)
        ∙ (ap (λ p. followed_by p next) (turn_on t r (not_early v.page v.change.mode m.place) ∙ ap (λ p. followed_by p (dispatched t v.change.mode r)) (html_first class v v.change.stack m.none))
        ∙ (ap (λ p. followed_by p next) (follow_assoc (current_is_plan kinds.AnyHtml v) (unless_html (kind.Characters class) v.change.popped) (dispatched t v.change.mode r))
        ∙ follow_assoc (current_is_plan kinds.AnyHtml v) (λ b. followed_by (unless_html (kind.Characters class) v.change.popped b) (dispatched t v.change.mode r)) next))))
