-- Characters between the parts of a table, and the token behind them: the straight way comes to the same as the table's.
use Rattle.std.proofs.Common.{◌≡◌, ℕ, suc, ◌-◌, ◌<◌, Bool, true, false, List, [], ◌∷◌, Option, Some, None, Result, Ok, Err, refl, ap, sym, subst, ◌∙◌, arith}
use Rattle.std.proofs.lemmas.Bool.{and_parts}
use Rattle.std.specs.Prelude.{if◌then◌else◌}
use Rattle.std.specs.Result.{IsErrAnd}
use Rattle.hp_elements.specs.Rules.{acts_for}
use Rattle.hp_elements.specs.Tokens.{kind_of}
use Rattle.hp_elements.specs.declared.act.Act.{Act}
use Rattle.hp_elements.specs.declared.act.Act.TheVariants as act
use Rattle.hp_elements.specs.declared.act.Test.TheVariants.{CurrentIsIn}
use Rattle.hp_elements.specs.declared.kinds.Kinds.TheVariants as kinds
use Rattle.hp_elements.specs.declared.sets.SetName.TheVariants.{TableTextParents}
use Rattle.hp_elements.specs.declared.token.CharClass.TheVariants.{White, Nul, Other}
use Rattle.hp_elements.specs.declared.token.Mode.{Mode}
use Rattle.hp_elements.specs.declared.token.Mode.TheVariants as mode
use Rattle.hp_elements.specs.declared.token.Token.{Token}
use Rattle.hp_elements.specs.declared.token.Token.TheVariants as token
use Rattle.hp_control.specs.declared.change.Change.{Change}
use Rattle.hp_control.specs.declared.change.Refusal.{Refusal}
use Rattle.hp_control.specs.declared.change.Refusal.TheVariants.{Crossed, NoMemory}
use Rattle.hp_control.specs.declared.element.OpenElement.{OpenElement}
use Rattle.hp_control.specs.declared.question.Crossing.TheVariants.{X7}
use Rattle.hp_control.specs.Faithful.{Page, Split}
use Rattle.hp_control.specs.KindTests.{within}
use Rattle.hp_control.specs.Plan.{Plan, gives, crosses, followed_by, Heard, Runs}
use Rattle.hp_control.specs.Running.{runs_crosses, runs_then}
use Rattle.hp_control.specs.States.{is_html}
use Rattle.hp_adoption.specs.FlushPlans.{flush_plan}
use Rattle.hp_rules_table.specs.TableModes.{in_row, in_table, in_table_body, in_table_text}
use Rattle.hp_rules_rest.specs.Whole.{every_mode_rows}
use Rattle.hp_views.specs.FieldPlans.{in_mode, original_kept, original_plan, with_change, with_pending}
use Rattle.hp_views.specs.StackPlans.{current_is_plan, current_on}
use Rattle.hp_views.specs.View.{Sight, Carries}
use Rattle.hp_model.specs.Texts.{has_html_top}
use Rattle.hp_acts.specs.HandlePlans.{all_turns_plan, most_turns, turns_plan, where_again}
use Rattle.hp_acts.specs.Handling.{Handles, nothing_asked}
use Rattle.hp_acts.specs.Plain.{is_run}
use Rattle.hp_acts.specs.RowPlans.{Reached, Came, again, acts_plan, changed, dispatched, is_early, mode_plan, nothing_more, rules_plan, turn_plan, where_left, left}
use Rattle.hp_acts.specs.TableText.{BeginsText, ContinuesText, EndsText, begin_plan, begun, continue_plan, end_plan, is_characters, is_part_mode, is_waiting, turns_from, waits_at}
use Rattle.hp_acts.specs.declared.turns.Handled.{Handled}
use Rattle.hp_acts.proofs.PlainRuns.{follow_assoc}
use Rattle.hp_acts.proofs.TurnRuns.{turn_on, turns_next}
use Rattle.hp_acts.proofs.UsualRuns.{handles_as, not_foreign, plan_done, plan_refused, row_row, section_row}

-- the acts by which characters begin to wait, and those behind the test
abbrev waiting_acts : List Act
waiting_acts = act.EmptyPending ∷ act.KeepOriginal ∷ act.Switch mode.InTableText ∷ act.Again ∷ act.Done ∷ act.AsFostered mode.InBody ∷ []

abbrev first_acts : List Act
first_acts = act.If (CurrentIsIn TableTextParents) 6 ∷ waiting_acts

first_row : (t : Token) → is_run t ≡ true → acts_for in_table (kind_of t) ≡ first_acts
first_row (token.Characters White text) h = refl
first_row (token.Characters Nul text) h = absurd (cc)
first_row (token.Characters Other text) h = refl
first_row _ h = absurd (cc)

passed_section : (t : Token) → is_run t ≡ true → acts_for in_table_body (kind_of t) ≡ act.As mode.InTable ∷ []
passed_section (token.Characters White text) h = refl
passed_section (token.Characters Nul text) h = absurd (cc)
passed_section (token.Characters Other text) h = refl
passed_section _ h = absurd (cc)

passed_row : (t : Token) → is_run t ≡ true → acts_for in_row (kind_of t) ≡ act.As mode.InTable ∷ []
passed_row (token.Characters White text) h = refl
passed_row (token.Characters Nul text) h = absurd (cc)
passed_row (token.Characters Other text) h = refl
passed_row _ h = absurd (cc)

further_row : (t : Token) → is_run t ≡ true → acts_for in_table_text (kind_of t) ≡ act.AppendPending ∷ []
further_row (token.Characters White text) h = refl
further_row (token.Characters Nul text) h = absurd (cc)
further_row (token.Characters Other text) h = refl
further_row _ h = absurd (cc)

last_row : (t : Token) → is_characters t ≡ false → acts_for in_table_text (kind_of t) ≡ act.Flush ∷ act.ToOriginal ∷ act.Again ∷ []
last_row (token.Characters class text) h = absurd (cc)
last_row (token.Start self_closing tag) h = refl
last_row (token.EndTag name) h = refl
last_row (token.Comment text) h = refl
last_row (token.Doctype doctype) h = refl
last_row token.EndOfInput h = refl

-- where characters wait the test of the current node holds
waits_there : (popped : ℕ) (stack : List OpenElement) → waits_at stack ≡ true → current_on popped (kinds.Set TableTextParents) stack ≡ gives true
waits_there popped [] h = absurd (cc)
waits_there popped (e ∷ es) h = ap gives (and_parts (is_html e) (within (kinds.Set TableTextParents) e) h).1

html_there : (stack : List OpenElement) → waits_at stack ≡ true → has_html_top stack ≡ true
html_there [] h = absurd (cc)
html_there (e ∷ es) h = (and_parts (is_html e) (within (kinds.Set TableTextParents) e) h).0

abbrev waiting : Reached → Reached
waiting r = changed r (with_change (begun r.split.change) r.split)

begins_by : (depth : ℕ) (t : Token) (r : Reached) → r.split.older_text ≡ false → current_is_plan (kinds.Set TableTextParents) r.split ≡ gives true → acts_plan (rules_plan depth t) nothing_more false t 0 0 first_acts r ≡ gives (again t (waiting r))
begins_by depth t r own top =
    ap (λ (p : Plan Bool). followed_by p (λ holds. acts_plan (rules_plan depth t) nothing_more false t 1 (if holds then 1 else 6) waiting_acts r)) top
    ∙ ap (λ (b : Bool). followed_by (if b then crosses X7 else gives (with_change (with_pending [] r.split.change) r.split)) (λ v. gives (again t (changed r (with_change (in_mode mode.InTableText (original_kept v.change)) v))))) own

-- the rules of tables, used so deep
table_row : (depth : ℕ) (t : Token) (r : Reached) → rules_plan (suc depth) t false mode.InTable r ≡ acts_plan (rules_plan depth t) nothing_more false t 0 0 (acts_for in_table (kind_of t)) r
unfolding rules_plan every_mode_rows
table_row depth t r = refl

text_row : (t : Token) (r : Reached) → mode_plan t mode.InTableText r ≡ acts_plan (rules_plan 3 t) nothing_more false t 0 0 (acts_for in_table_text (kind_of t)) r
unfolding rules_plan every_mode_rows
text_row t r = refl

in_tables : (depth : ℕ) (t : Token) (r : Reached) → is_run t ≡ true → r.split.older_text ≡ false → current_is_plan (kinds.Set TableTextParents) r.split ≡ gives true → rules_plan (suc depth) t false mode.InTable r ≡ gives (again t (waiting r))
in_tables depth t r run own top =
    table_row depth t r
    ∙ (ap (λ acts. acts_plan (rules_plan depth t) nothing_more false t 0 0 acts r) (first_row t run)
    ∙ begins_by depth t r own top)

abbrev used_on : Came → Plan Came
used_on = where_left (λ s. gives (left s))

-- a row that only uses the rules of tables
passed_on : (t : Token) (r : Reached) (acts : List Act) → acts ≡ act.As mode.InTable ∷ [] → is_run t ≡ true → r.split.older_text ≡ false → current_is_plan (kinds.Set TableTextParents) r.split ≡ gives true → acts_plan (rules_plan 3 t) nothing_more false t 0 0 acts r ≡ gives (again t (waiting r))
passed_on t r acts is run own top =
    ap (λ xs. acts_plan (rules_plan 3 t) nothing_more false t 0 0 xs r) is
    ∙ ap (λ p. followed_by p used_on) (in_tables 2 t r run own top)

by_mode : (m : Mode) (t : Token) (r : Reached) → is_part_mode m ≡ true → is_run t ≡ true → r.split.older_text ≡ false → current_is_plan (kinds.Set TableTextParents) r.split ≡ gives true → mode_plan t m r ≡ gives (again t (waiting r))
by_mode mode.InTable t r m run own top = in_tables 3 t r run own top
by_mode mode.InTableBody t r m run own top = section_row t r ∙ passed_on t r (acts_for in_table_body (kind_of t)) (passed_section t run) run own top
by_mode mode.InRow t r m run own top = row_row t r ∙ passed_on t r (acts_for in_row (kind_of t)) (passed_row t run) run own top
by_mode _ t r m run own top = absurd (cc)

not_early : (page : Option Page) (m : Mode) → is_part_mode m ≡ true → is_early page m ≡ false
not_early (Some page) m h = refl
not_early None mode.InTable h = refl
not_early None mode.InTableBody h = refl
not_early None mode.InRow h = refl
not_early None _ h = absurd (cc)

text_not_early : (page : Option Page) → is_early page mode.InTableText ≡ false
text_not_early (Some page) = refl
text_not_early None = refl

-- a turn of a token that isn't foreign content
turn_of : (t : Token) (r : Reached) → is_early r.split.page r.split.change.mode ≡ false → has_html_top r.split.change.stack ≡ true → turn_plan t r ≡ mode_plan t r.split.change.mode r
turn_of t r early top =
    turn_on t r early
    ∙ ap (λ p. followed_by p (dispatched t r.split.change.mode r)) (not_foreign (kind_of t) r.split r.split.change.stack top)

begin_turn : (t : Token) (r : Reached) → BeginsText r.split t → turn_plan t r ≡ gives (again t (waiting r))
begin_turn t r b =
    turn_of t r (not_early r.split.page r.split.change.mode b.place) (html_there r.split.change.stack b.top)
    ∙ by_mode r.split.change.mode t r b.place b.run b.own (waits_there r.split.change.popped r.split.change.stack b.top)

waiting_is : (m : Mode) → is_waiting m ≡ true → m ≡ mode.InTableText
waiting_is mode.InTableText h = refl
waiting_is _ h = absurd (cc)

-- a turn where characters wait
text_turn : (t : Token) (r : Reached) (acts : List Act) → is_waiting r.split.change.mode ≡ true → has_html_top r.split.change.stack ≡ true → acts_for in_table_text (kind_of t) ≡ acts → turn_plan t r ≡ acts_plan (rules_plan 3 t) nothing_more false t 0 0 acts r
text_turn t r acts place top is =
    let there = waiting_is r.split.change.mode place in
    turn_of t r (ap (is_early r.split.page) there ∙ text_not_early r.split.page) top
    ∙ (ap (λ m. mode_plan t m r) there
    ∙ (text_row t r
    ∙ ap (λ xs. acts_plan (rules_plan 3 t) nothing_more false t 0 0 xs r) is))

continue_turn : (t : Token) (r : Reached) → ContinuesText r.split t → turn_plan t r ≡ followed_by (continue_plan t r.split) (λ v. gives (left (changed r v)))
continue_turn t r h = text_turn t r (act.AppendPending ∷ []) h.place h.top (further_row t h.run)

abbrev behind : Token → Reached → Split → Plan Came
behind t r v = followed_by (original_plan v) (λ w. gives (again t (changed r w)))

end_turn : (t : Token) (r : Reached) → EndsText r.split t → turn_plan t r ≡ followed_by (flush_plan r.split) (behind t r)
end_turn t r h = text_turn t r (act.Flush ∷ act.ToOriginal ∷ act.Again ∷ []) h.place h.top (last_row t h.other)

next_turns : (n : ℕ) (t : Token) (r : Reached) → 0 < n → turns_plan n t r ≡ followed_by (turn_plan t r) (where_again (turns_plan (n - 1)))
next_turns n t r few =
    let all : n ≡ n - 0 = omega arith in
    ap (λ k. turns_plan k t r) all ∙ turns_next n 0 t r few

continue_turns : (n : ℕ) (t : Token) (r : Reached) → ContinuesText r.split t → 0 < n → turns_plan n t r ≡ followed_by (continue_plan t r.split) (λ v. gives (changed r v))
continue_turns n t r h few = next_turns n t r few ∙ ap (λ p. followed_by p (where_again (turns_plan (n - 1)))) (continue_turn t r h)

-- one turn in the mode that is kept, and one where characters wait
begin_turns : (n : ℕ) (t : Token) (r : Reached) → BeginsText r.split t → 1 < n → turns_plan n t r ≡ followed_by (begin_plan t r.split) (λ v. gives (changed r v))
begin_turns n t r b few =
    next_turns n t r (omega arith)
    ∙ (ap (λ p. followed_by p (where_again (turns_plan (n - 1)))) (begin_turn t r b)
    ∙ continue_turns (n - 1) t (waiting r) (record { run = b.run; place = refl; top = html_there r.split.change.stack b.top }) (omega arith))

-- the turns that are left behind the characters
end_turns : (n : ℕ) (t : Token) (r : Reached) → EndsText r.split t → 0 < n → turns_plan n t r ≡ followed_by (end_plan r.split) (λ v. turns_plan (n - 1) t (changed r v))
end_turns n t r h few =
    next_turns n t r few
    ∙ (ap (λ p. followed_by p (where_again (turns_plan (n - 1)))) (end_turn t r h)
    ∙ (follow_assoc (flush_plan r.split) (behind t r) (where_again (turns_plan (n - 1)))
    ∙ sym (follow_assoc (flush_plan r.split) original_plan (λ v. turns_plan (n - 1) t (changed r v)))))

abbrev from : Split → Reached
from v = record { split = v; handled = nothing_asked }

-- the first characters, behind what waits from then on
pub carried_behind : (result : Result (Unit {0}) Refusal) (h : Heard) (new : Sight) (t : Token) (v : Split) (c : Change) → c ≡ begun v.change → Carries result (record { heard = h; split = with_change c v }) new (continue_plan t) → Carries result (record { heard = h; split = v }) new (begin_plan t)
carried_behind result h new t v c e k =
    let P : Change → Type 0 = λ x. Carries result (record { heard = h; split = with_change x v }) new (continue_plan t) in
    by_result result (subst P e k)
  where
    by_result : (result : Result (Unit {0}) Refusal) → Carries result (record { heard = h; split = with_change (begun v.change) v }) new (continue_plan t) → Carries result (record { heard = h; split = v }) new (begin_plan t)
    by_result (Ok u) k = k
    by_result (Err (Crossed crossing)) k = k
    by_result (Err NoMemory) k = tt

pub begin_done : (old new : Sight) (t : Token) → BeginsText old.split t → Carries (Ok tt) old new (begin_plan t) → Handles (Ok nothing_asked) old new (all_turns_plan t)
begin_done old new t b run = plan_done old new (begin_plan t) (all_turns_plan t) (begin_turns (most_turns old.split) t (from old.split) b (omega arith)) run

pub begin_refused : (refused : Refusal) (old new : Sight) (t : Token) → BeginsText old.split t → Carries (Err refused) old new (begin_plan t) → Handles (Err refused) old new (all_turns_plan t)
begin_refused refused old new t b run = plan_refused refused old new (begin_plan t) (all_turns_plan t) (begin_turns (most_turns old.split) t (from old.split) b (omega arith)) run

pub continue_done : (old new : Sight) (t : Token) → ContinuesText old.split t → Carries (Ok tt) old new (continue_plan t) → Handles (Ok nothing_asked) old new (all_turns_plan t)
continue_done old new t h run = plan_done old new (continue_plan t) (all_turns_plan t) (continue_turns (most_turns old.split) t (from old.split) h (omega arith)) run

pub continue_refused : (refused : Refusal) (old new : Sight) (t : Token) → ContinuesText old.split t → Carries (Err refused) old new (continue_plan t) → Handles (Err refused) old new (all_turns_plan t)
continue_refused refused old new t h run = plan_refused refused old new (continue_plan t) (all_turns_plan t) (continue_turns (most_turns old.split) t (from old.split) h (omega arith)) run

handles_then : (result : Result Handled Refusal) (old mid new : Sight) (p : Split → Plan Split) (next : Split → Plan Reached) → Carries (Ok tt) old mid p → Handles result mid new next → Handles result old new (λ v. followed_by (p v) next)
handles_then (Ok handled) old mid new p next run k = runs_then next run k
handles_then (Err (Crossed crossing)) old mid new p next run k = runs_then next run k
handles_then (Err NoMemory) old mid new p next run k = tt

-- the characters went into the tree, and the token was handled behind them in the turns that were left
pub end_done : (result : Result Handled Refusal) (old mid new : Sight) (t : Token) (most : ℕ) → EndsText old.split t → most ≡ most_turns old.split - 1 → Carries (Ok tt) old mid end_plan → Handles result mid new (turns_from most t) → Handles result old new (all_turns_plan t)
end_done result old mid new t most h few run k =
    let P : ℕ → Type 0 = λ n. Handles result mid new (turns_from n t) in
    handles_as result old new (λ v. followed_by (end_plan v) (turns_from (most_turns old.split - 1) t)) (all_turns_plan t)
    (end_turns (most_turns old.split) t (from old.split) h (omega arith))
    (handles_then result old mid new end_plan (turns_from (most_turns old.split - 1) t) run (subst P few k))

end_refused : (refused : Refusal) (old new : Sight) (t : Token) → EndsText old.split t → Carries (Err refused) old new end_plan → Handles (Err refused) old new (all_turns_plan t)
end_refused (Crossed crossing) old new t h run =
    let P : Plan Reached → Type 0 = λ plan. Runs old.heard new.heard plan (Err crossing) in
    subst P (sym (end_turns (most_turns old.split) t (from old.split) h (omega arith))) (runs_crosses (turns_from (most_turns old.split - 1) t) run)
end_refused NoMemory old new t h run = tt

-- the characters couldn't go there
pub end_failed : (result : Result Handled Refusal) (refused : Refusal) (old new : Sight) (t : Token) → EndsText old.split t → IsErrAnd result (λ e. e ≡ refused) → Carries (Err refused) old new end_plan → Handles result old new (all_turns_plan t)
end_failed (Ok handled) refused old new t h is run = absurd is
end_failed (Err e) refused old new t h is run = let P : Refusal → Type 0 = λ x. Handles (Err x) old new (all_turns_plan t) in subst P (sym is) (end_refused refused old new t h run)
