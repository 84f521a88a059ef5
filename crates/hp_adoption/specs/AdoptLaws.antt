-- The adoption agency algorithm: its plan does to a view what the act does to the whole state, or it crosses where the act
-- touches something older (13.2.6.4.7).
use Rattle.std.specs.Prelude.{◌≡◌, ℕ, zero, suc, ◌&&◌, Bool, true, false, not, if◌then◌else◌, List, [], ◌∷◌, ◌++◌, Result, Ok, Err, map, slice_get, refl}
use Rattle.std.specs.Str.{bytes_eq}
use Rattle.std.proofs.Common.{sym, subst, ap, ◌∙◌}
use Rattle.hp_elements.specs.declared.kinds.Kinds.TheVariants as kinds
use Rattle.hp_control.specs.declared.element.OpenElement.{OpenElement}
use Rattle.hp_control.specs.declared.element.FormattingEntry.{FormattingEntry}
use Rattle.hp_control.specs.declared.question.Crossing.{Crossing}
use Rattle.hp_control.specs.States.{ControlState, AreIds, is_html}
use Rattle.hp_control.specs.Truth.{answer_of, top_has_entry}
use Rattle.hp_control.specs.Walks.{has_entry}
use Rattle.hp_control.specs.Acts.{pop}
use Rattle.hp_control.specs.Adoption.{turn, turns, goes_on, plain_top, is_plain, adopt}
use Rattle.hp_control.specs.Apply.{shifted, shifted_entry}
use Rattle.hp_control.specs.Composed.{is_one}
use Rattle.hp_control.specs.Faithful.{Split, state_over, StandsOn, IsSaid, Matches, Faithful, FaithfulTest, faithful_nothing, faithful_test, said_first, then_matches}
use Rattle.hp_control.specs.Outcome.{and_then}
use Rattle.hp_control.specs.Plan.{end_by}
use Rattle.hp_control.specs.Running.{on_end, end_then}
use Rattle.hp_views.specs.OwnIds.{ids, ids_drop}
use Rattle.hp_views.specs.PopLaws.{pop_faithful}
use Rattle.hp_views.specs.StackLaws.{full_stack, current_faithful}
use Rattle.hp_views.specs.StackPlans.{current_is_plan}
use Rattle.hp_adoption.specs.AdoptLawsBlock.{older_stack}
use Rattle.hp_adoption.specs.AdoptLawsEntries.{older_list, whole_list, none_own, entry_own, entry_below}
use Rattle.hp_adoption.specs.AdoptLawsOlder.{turn_matches}
use Rattle.hp_adoption.specs.AdoptLawsOwn.{MatchesTurn}
use Rattle.hp_adoption.specs.AdoptPlans.{Turned, turn_plan, turns_on, turns_plan, plain_older, plain_on, is_plain_plan, adopt_by, adopt_plan}

-- ## Turns

-- what follows a turn
abbrev more_turns : ControlState → ℕ → Bool → List ℕ → Turned → Result Split Crossing
more_turns s n fostering name t = end_by (answer_of s) (turns_on (turns_plan n fostering name) t.split t.goes_on)

-- a turn after which there may be another, and one after which there is none
goes_further : (s : ControlState) (v : Split) (n : ℕ) (fostering : Bool) (name : List ℕ) (e : Result Turned Crossing) → Faithful (turns_plan n fostering name) (turns n fostering name) → StandsOn s v → MatchesTurn s v e (turn fostering name (state_over v s)) true → IsSaid v.page (and_then (turn fostering name) (turns n fostering name) (state_over v s)) → Matches s v (on_end e (more_turns s n fostering name)) (and_then (turn fostering name) (turns n fostering name) (state_over v s))
goes_further s v n fostering name (Ok t) h st m u =
    let P : Bool → Type 0 = λ b. Matches s v (end_by (answer_of s) (turns_on (turns_plan n fostering name) t.split b)) (and_then (turn fostering name) (turns n fostering name) (state_over v s)) in
    subst P (sym m.right) (then_matches s v (turns_plan n fostering name) (turn fostering name) (turns n fostering name) (state_over v s) (Ok t.split) st u (λ w d k. h s w d.stands refl k) m.done)
goes_further s v n fostering name (Err crossing) h st m u = then_matches s v (turns_plan n fostering name) (turn fostering name) (turns n fostering name) (state_over v s) (Err crossing) st u (λ w d k. h s w d.stands refl k) m

goes_no_further : (s : ControlState) (v : Split) (n : ℕ) (fostering : Bool) (name : List ℕ) (e : Result Turned Crossing) → MatchesTurn s v e (turn fostering name (state_over v s)) false → Matches s v (on_end e (more_turns s n fostering name)) (turn fostering name (state_over v s))
goes_no_further s v n fostering name (Ok t) m =
    let P : Bool → Type 0 = λ b. Matches s v (end_by (answer_of s) (turns_on (turns_plan n fostering name) t.split b)) (turn fostering name (state_over v s)) in
    subst P (sym m.right) m.done
goes_no_further s v n fostering name (Err crossing) m = m

turns_by : (s : ControlState) (v : Split) (n : ℕ) (fostering : Bool) (name : List ℕ) (e : Result Turned Crossing) (b : Bool) → Faithful (turns_plan n fostering name) (turns n fostering name) → StandsOn s v → (IsSaid v.page (turn fostering name (state_over v s)) → MatchesTurn s v e (turn fostering name (state_over v s)) b) → let o = if b then and_then (turn fostering name) (turns n fostering name) (state_over v s) else turn fostering name (state_over v s) in IsSaid v.page o → Matches s v (on_end e (more_turns s n fostering name)) o
turns_by s v n fostering name e true h st m u =
    let c = state_over v s in
    let first = turn fostering name c in
    goes_further s v n fostering name e h st (m (said_first v.page first (turns n fostering name first.control) u)) u
turns_by s v n fostering name e false h st m u = goes_no_further s v n fostering name e (m u)

pub turns_faithful : (n : ℕ) (fostering : Bool) (name : List ℕ) → Faithful (turns_plan n fostering name) (turns n fostering name)
unfolding turns turns_plan
turns_faithful zero fostering name = faithful_nothing
turns_faithful (suc n) fostering name = λ s v st fit u.
    let c = state_over v s in
    let e = end_by (answer_of s) (turn_plan fostering name v) in
    let o = if goes_on name c then and_then (turn fostering name) (turns n fostering name) c else turn fostering name c in
    let P : Result Split Crossing → Type 0 = λ r. Matches s v r o in
    subst P (sym (end_then (answer_of s) (turn_plan fostering name v) (λ t. turns_on (turns_plan n fostering name) t.split t.goes_on)))
    (turns_by s v n fostering name e (goes_on name c) (turns_faithful n fostering name) st (turn_matches fostering name s v st) u)

-- ## The current node without an entry

by_parts : (a b t : Bool) → (if (a && b) then not t else false) ≡ (a && b && not t)
by_parts true true t = refl
by_parts true false t = refl
by_parts false b t = refl

-- what is found of an older current node
abbrev plain_there : Bool → Bool → Bool
plain_there b t = if b then not t else false

plain_asked : (s : ControlState) (name : List ℕ) (v : Split) (b : Bool) → end_by (answer_of s) (plain_older name v b) ≡ Ok (plain_there b (top_has_entry (older_stack s v) (older_list s v)))
plain_asked s name v true = refl
plain_asked s name v false = refl

plain_left : (n : ℕ) (name : List ℕ) (rest : List OpenElement) (xs ys : List FormattingEntry) → AreIds 0 n (ids rest) → plain_there (is_one (kinds.Html name) (slice_get rest 0)) (top_has_entry rest ys) ≡ plain_top name rest (map (shifted_entry n) xs ++ ys)
plain_left n name [] xs ys h = refl
plain_left n name (e ∷ es) xs ys h =
    by_parts (is_html e) (bytes_eq name e.name) (has_entry e.id ys)
    ∙ ap (λ b. is_html e && bytes_eq name e.name && not b) (sym (entry_below n e.id xs ys h.1))

plain_way : (s : ControlState) (name : List ℕ) (v : Split) (es : List OpenElement) → es ≡ v.change.stack → StandsOn s v → end_by (answer_of s) (plain_on name v es) ≡ Ok (plain_top name (map (shifted s.next) es ++ older_stack s v) (map (shifted_entry s.next) v.change.formatting ++ older_list s v))
plain_way s name v [] e st =
    let b = is_one (kinds.Html name) (slice_get (state_over v s).stack 0) in
    let empty : (state_over v s).stack ≡ older_stack s v = full_stack s v ∙ ap (λ l. map (shifted s.next) l ++ older_stack s v) (sym e) in
    end_then (answer_of s) (current_is_plan (kinds.Html name) v) (plain_older name v)
    ∙ (ap (λ r. on_end r (λ x. end_by (answer_of s) (plain_older name v x))) (current_faithful (kinds.Html name) s v st)
    ∙ (plain_asked s name v b
    ∙ (ap (λ l. Ok (plain_there (is_one (kinds.Html name) (slice_get l 0)) (top_has_entry (older_stack s v) (older_list s v)))) empty
    ∙ ap Ok (plain_left s.next name (older_stack s v) v.change.formatting (older_list s v) (ids_drop 0 s.next v.change.popped s.stack st.older.stack_ids)))))
plain_way s name v (x ∷ xs) e st = ap (λ b. Ok (is_html x && bytes_eq name x.name && not b)) (sym (entry_own s.next x.id v.change.formatting (older_list s v) (none_own s v st x.id)))

pub is_plain_faithful : (name : List ℕ) → FaithfulTest (is_plain_plan name) (is_plain name)
is_plain_faithful name = λ s v st.
    plain_way s name v v.change.stack refl st
    ∙ ap Ok (sym (ap (λ l. plain_top name l (state_over v s).formatting) (full_stack s v)
    ∙ ap (plain_top name (map (shifted s.next) v.change.stack ++ older_stack s v)) (whole_list s v)))

-- ## The algorithm

pub adopt_faithful : (fostering : Bool) (name : List ℕ) → Faithful (adopt_plan fostering name) (adopt fostering name)
adopt_faithful fostering name = faithful_test (is_plain_plan name) (is_plain name) (λ b v. adopt_by fostering name v b) pop (turns 8 fostering name) (is_plain_faithful name) pop_faithful (turns_faithful 8 fostering name)
