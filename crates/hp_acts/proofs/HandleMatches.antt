-- The handling of a token over an older state comes to what the definition says.
use Rattle.std.proofs.Common.{◌≡◌, ℕ, zero, suc, ◌+◌, ◌^◌, ◌<◌, ◌≤◌, inl, inr, List, [], ◌∷◌, ◌++◌, length, Bool, true, false, ◌==◌, ◌&&◌, Option, None, Some, refl, sym, subst, ap, ◌∙◌, arith, length-append, append-nil}
use Rattle.std.specs.Prelude.{if◌then◌else◌, Result, Ok, Err, drop, map, IsSome}
use Rattle.std.specs.Option.{unwrap_or}
use Rattle.std.proofs.lemmas.Bool.{true≢false}
use Rattle.std.proofs.lemmas.List.{length-map}
use Rattle.hp_elements.specs.Tokens.{kind_of}
use Rattle.hp_elements.specs.declared.act.Act.{Act}
use Rattle.hp_elements.specs.declared.act.Test.{Test}
use Rattle.hp_elements.specs.declared.token.Mode.{Mode}
use Rattle.hp_elements.specs.declared.token.Mode.TheVariants as mode
use Rattle.hp_elements.specs.declared.token.Rest.{Rest}
use Rattle.hp_elements.specs.declared.token.Token.{Token}
use Rattle.hp_elements.specs.declared.token.Token.TheVariants as token
use Rattle.hp_control.specs.declared.question.Crossing.{Crossing}
use Rattle.hp_control.specs.Apply.{applied, named_edit, shifted}
use Rattle.hp_control.specs.Faithful.{Split, StandsOn, state_over}
use Rattle.hp_control.specs.Plan.{end_by}
use Rattle.hp_control.specs.States.{ControlState, IsValid, StackFits}
use Rattle.hp_control.specs.Truth.{answer_of}
use Rattle.hp_views.specs.Quiet.{paged, paged_part, stands_kept}
use Rattle.hp_views.specs.StackLaws.{full_stack}
use Rattle.hp_model.specs.AtOnce.{after_first, handle_at_once}
use Rattle.hp_model.specs.AtOnce.{handle_rest as handled_rest}
use Rattle.hp_model.specs.Handling.{all_turns, bound, settled}
use Rattle.hp_model.specs.Rows.{turn}
use Rattle.hp_model.specs.Steps.{holds, step}
use Rattle.hp_model.specs.Tokens.{is_line_feed}
use Rattle.hp_model.specs.Turns.{Handled as Meant, later, turns, unchanged}
use Rattle.hp_model.specs.Whole.{IsRead}
use Rattle.hp_model.proofs.Course.{Course, Along, fits}
use Rattle.hp_model.proofs.Handled.{turns-end, turns-more}
use Rattle.hp_model.proofs.JoinedTexts.{join-equal}
use Rattle.hp_acts.specs.HandlePlans.{all_turns_plan, handle_plan, handle_rest, most_turns, without_line_feed}
use Rattle.hp_acts.specs.Handling.{nothing_asked, unskipped}
use Rattle.hp_acts.specs.Older.{EndsOver}
use Rattle.hp_acts.specs.Plans.{act_plan, by_plan, test_plan}
use Rattle.hp_acts.specs.RowPlans.{Reached}
use Rattle.hp_acts.specs.Suiting.{turns_suit}
use Rattle.hp_acts.proofs.Matching.{MatchesAlike}
use Rattle.hp_acts.proofs.RowMatches.{is_row_act}
use Rattle.hp_acts.proofs.EnoughSuits.{suits_more}
use Rattle.hp_acts.proofs.TurnMatches.{MatchesTurns, turns_match}

-- as many turns as the whole state's
enough : (s : ControlState) (v : Split) → StandsOn s v → bound (state_over v s) ≤ most_turns v
enough s v st =
    let own : length (map (shifted s.next) v.change.stack) ≡ length v.change.stack = length-map v.change.stack (shifted s.next) in
    let all : length (map (shifted s.next) v.change.stack ++ drop v.change.popped s.stack) ≡ length (map (shifted s.next) v.change.stack) + length (drop v.change.popped s.stack) = length-append (map (shifted s.next) v.change.stack) (drop v.change.popped s.stack) in
    let full : length (state_over v s).stack ≡ length (map (shifted s.next) v.change.stack ++ drop v.change.popped s.stack) = ap length (full_stack s v) in
    let left : length (drop v.change.popped s.stack) ≤ length s.stack = drop-short v.change.popped s.stack in
    let short : length s.stack < 2 ^ 60 = st.older.short in
    omega (arith, own, all, full, left, short)
  where
    drop-short : {X : Type 0} (n : ℕ) (xs : List X) → length (drop n xs) ≤ length xs
    drop-short zero xs = omega arith
    drop-short (suc n) [] = omega arith
    drop-short (suc n) (x ∷ xs) = let h : length (drop n xs) ≤ length xs = drop-short n xs in omega (arith, h)

first_later : (o : Option Rest) → later None o ≡ o
first_later None = refl
first_later (Some rest) = refl

ends_so : (s : ControlState) (v : Split) (end : Result Reached Crossing) (o : Option Meant) (c : ControlState) → IsSome o → MatchesTurns s (record { split = v; handled = nothing_asked }) end o o → EndsOver s v end (unwrap_or o (unchanged c))
ends_so s v (Ok r) (Some h) c i m = record { control = m.done.control; edits = m.done.edits; switch = m.switch ∙ first_later h.switch; stopped = m.stopped; own = m.done.own; stands = m.done.stands }
ends_so s v (Ok r) None c i m = absurd m
ends_so s v (Err crossing) (Some h) c i (inl m) = m
ends_so s v (Err crossing) (Some h) c i (inr m) = let z : Some h ≡ None = m.1 in absurd (cc)
ends_so s v (Err crossing) None c i m = absurd (true≢false (sym i))

-- no line feed is skipped any more
skips_over : (s : ControlState) (v : Split) → (state_over v s).skip_lf ≡ v.change.skip_lf
skips_over s v = paged_part v.page (λ c. c.skip_lf) (applied v.change s) (λ p c. refl)

settled_over : (s : ControlState) (v : Split) → state_over (unskipped v) s ≡ settled (state_over v s)
settled_over s v = paged v.page settled (applied v.change s) (λ p c. refl)

settled_same : (c : ControlState) → c.skip_lf ≡ false → settled c ≡ c
settled_same c e = ap (λ b. record c { skip_lf = b }) (sym e)

settled_fits : (m : Mode) (c : ControlState) → StackFits m c → StackFits m (settled c)
settled_fits mode.Initial c h = h
settled_fits mode.BeforeHtml c h = h
settled_fits mode.Text c h = h
settled_fits _ c h = h

pub settled_valid : (c : ControlState) → IsValid c → IsValid (settled c)
settled_valid c v = record {
  stack_ids = v.stack_ids;
  list_ids = v.list_ids;
  head = v.head;
  form = v.form;
  formatting = v.formatting;
  stack = settled_fits c.mode c v.stack;
  original = v.original;
  pending = v.pending;
  template_modes = v.template_modes;
  templates = v.templates;
  lex = v.lex;
}

unskipped_stands : (s : ControlState) (v : Split) → StandsOn s v → StandsOn s (unskipped v)
unskipped_stands s v st = stands_kept s v (record v.change { skip_lf = false }) refl st

from_unskipped : (s : ControlState) (v : Split) (end : Result Reached Crossing) (h : Meant) → EndsOver s (unskipped v) end h → EndsOver s v end h
from_unskipped s v (Ok r) h m = record { control = m.control; edits = m.edits; switch = m.switch; stopped = m.stopped; own = m.own; stands = m.stands }
from_unskipped s v (Err crossing) h m = m

module _ (s : ControlState) (of_act : Bool → Token → Act → ControlState → Bool) (of_test : Test → ControlState → Bool) where
  -- what is asked on the way of what is left of a token, and of a token at once
  abbrev pub rest_suits : Option Token → ControlState → Bool
  rest_suits None c = true
  rest_suits (Some t) c = turns_suit s of_act of_test (bound c) t c

  abbrev pub suits_at_once : Token → ControlState → Bool
  suits_at_once t c = if c.skip_lf && is_line_feed t then rest_suits (after_first t) (settled c) else turns_suit s of_act of_test (bound (settled c)) t (settled c)

  module _ (acts_hold : (t : Token) (n : ℕ) → IsRead t → (fostering : Bool) (a : Act) (v : Course) (d : Split) → StandsOn s d → Along v n (state_over d s) → fits (kind_of t) a v ≡ true → is_row_act a ≡ true → of_act fostering t a (state_over d s) ≡ true
      → MatchesAlike s d (end_by (answer_of s) (by_plan (act_plan fostering t a) d)) (step fostering t a (state_over d s)))
      (tests_hold : (t : Token) (x : Test) (d : Split) → StandsOn s d → of_test x (state_over d s) ≡ true → end_by (answer_of s) (test_plan t x d) ≡ Ok (holds t x (state_over d s))) where
    turns_over : (t : Token) (v : Split) → IsRead t → StandsOn s v → IsValid (state_over v s) → turns_suit s of_act of_test (bound (state_over v s)) t (state_over v s) ≡ true
        → EndsOver s v (end_by (answer_of s) (all_turns_plan t v)) (all_turns (state_over v s) t)
    turns_over t v read st valid i =
        let c = state_over v s in
        let most = most_turns v in
        let h : bound c ≤ most = enough s v st in
        let same : turns turn most t c ≡ turns turn (bound c) t c = turns-more most t c read valid h in
        ends_so s v (end_by (answer_of s) (all_turns_plan t v)) (turns turn (bound c) t c) c (turns-end t c read valid)
        (subst (λ o. MatchesTurns s (record { split = v; handled = nothing_asked }) (end_by (answer_of s) (all_turns_plan t v)) o o) same
        (turns_match s of_act of_test acts_hold tests_hold most most t (record { split = v; handled = nothing_asked }) (omega arith) read st valid (suits_more s of_act of_test most t c read valid h i)))

    -- from the view that skips no line feed any more
    settled_turns : (t : Token) (v : Split) → IsRead t → StandsOn s v → IsValid (state_over v s) → turns_suit s of_act of_test (bound (settled (state_over v s))) t (settled (state_over v s)) ≡ true
        → EndsOver s v (end_by (answer_of s) (all_turns_plan t (unskipped v))) (all_turns (settled (state_over v s)) t)
    settled_turns t v read st valid i =
        let c = state_over v s in
        let w = unskipped v in
        let same : state_over w s ≡ settled c = settled_over s v in
        subst (λ x. EndsOver s v (end_by (answer_of s) (all_turns_plan t w)) (all_turns x t)) same
        (from_unskipped s v (end_by (answer_of s) (all_turns_plan t w)) (all_turns (state_over w s) t)
        (turns_over t w read (unskipped_stands s v st) (subst (λ x. IsValid x) (sym same) (settled_valid c valid)) (ap (λ x. turns_suit s of_act of_test (bound x) t x) same ∙ i)))

    -- nothing is left of the token
    dropped : (v : Split) → StandsOn s v → EndsOver s v (end_by (answer_of s) (handle_rest None (unskipped v))) (handled_rest (settled (state_over v s)) None)
    dropped v st = record {
      control = settled_over s v;
      edits = join-equal (map (named_edit s) v.edits) (map (named_edit s) v.edits ++ []) (sym (append-nil (map (named_edit s) v.edits)));
      switch = refl;
      stopped = refl;
      own = refl;
      stands = unskipped_stands s v st;
    }

    -- where a line feed is to be skipped
    abbrev Skipping : Split → Result Reached Crossing → Token → Type 0
    Skipping v end t =
        EndsOver s v end
        (if is_line_feed t then handled_rest (settled (state_over v s)) (after_first t) else all_turns (settled (state_over v s)) t)

    skipping : (t : Token) (v : Split) → IsRead t → StandsOn s v → IsValid (state_over v s)
        → (if is_line_feed t then rest_suits (after_first t) (settled (state_over v s)) else turns_suit s of_act of_test (bound (settled (state_over v s))) t (settled (state_over v s))) ≡ true
        → Skipping v (end_by (answer_of s) (handle_rest (without_line_feed t) (unskipped v))) t
    skipping (token.Characters class []) v read st valid i = settled_turns (token.Characters class []) v read st valid i
    skipping (token.Characters class (x ∷ [])) v read st valid i = go (x == 0xA) i
      where
        go : (b : Bool) → (if b then true else turns_suit s of_act of_test (bound (settled (state_over v s))) (token.Characters class (x ∷ [])) (settled (state_over v s))) ≡ true
            → EndsOver s v (end_by (answer_of s) (handle_rest (if b then None else Some (token.Characters class (x ∷ []))) (unskipped v)))
            (if b then handled_rest (settled (state_over v s)) None else all_turns (settled (state_over v s)) (token.Characters class (x ∷ [])))
        go true j = dropped v st
        go false j = settled_turns (token.Characters class (x ∷ [])) v tt st valid j
    skipping (token.Characters class (x ∷ y ∷ text)) v read st valid i = go (x == 0xA) i
      where
        go : (b : Bool) → (if b then turns_suit s of_act of_test (bound (settled (state_over v s))) (token.Characters class (y ∷ text)) (settled (state_over v s)) else turns_suit s of_act of_test (bound (settled (state_over v s))) (token.Characters class (x ∷ y ∷ text)) (settled (state_over v s))) ≡ true
            → EndsOver s v (end_by (answer_of s) (handle_rest (if b then Some (token.Characters class (y ∷ text)) else Some (token.Characters class (x ∷ y ∷ text))) (unskipped v)))
            (if b then handled_rest (settled (state_over v s)) (Some (token.Characters class (y ∷ text))) else all_turns (settled (state_over v s)) (token.Characters class (x ∷ y ∷ text)))
        go true j = settled_turns (token.Characters class (y ∷ text)) v tt st valid j
        go false j = settled_turns (token.Characters class (x ∷ y ∷ text)) v tt st valid j
    skipping (token.Start self_closing tag) v read st valid i = settled_turns (token.Start self_closing tag) v read st valid i
    skipping (token.EndTag name) v read st valid i = settled_turns (token.EndTag name) v read st valid i
    skipping (token.Comment text) v read st valid i = settled_turns (token.Comment text) v read st valid i
    skipping (token.Doctype parts) v read st valid i = settled_turns (token.Doctype parts) v read st valid i
    skipping token.EndOfInput v read st valid i = settled_turns token.EndOfInput v read st valid i

    pub handled_over : (t : Token) (v : Split) → IsRead t → StandsOn s v → IsValid (state_over v s) → suits_at_once t (state_over v s) ≡ true
        → EndsOver s v (end_by (answer_of s) (handle_plan t v)) (handle_at_once (state_over v s) t)
    handled_over t v read st valid i = go v.change.skip_lf refl
      where
        go : (b : Bool) → v.change.skip_lf ≡ b → EndsOver s v (end_by (answer_of s) (if b then handle_rest (without_line_feed t) (unskipped v) else all_turns_plan t v)) (handle_at_once (state_over v s) t)
        go true e =
            let c = state_over v s in
            let end = end_by (answer_of s) (handle_rest (without_line_feed t) (unskipped v)) in
            let on : c.skip_lf ≡ true = skips_over s v ∙ e in
            let suits : (if is_line_feed t then rest_suits (after_first t) (settled c) else turns_suit s of_act of_test (bound (settled c)) t (settled c)) ≡ true =
            sym (ap (λ b. if b && is_line_feed t then rest_suits (after_first t) (settled c) else turns_suit s of_act of_test (bound (settled c)) t (settled c)) on) ∙ i in
            subst (λ b. EndsOver s v end (if b && is_line_feed t then handled_rest (settled c) (after_first t) else all_turns (settled c) t)) (sym on)
            (skipping t v read st valid suits)
        go false e =
            let c = state_over v s in
            let end = end_by (answer_of s) (all_turns_plan t v) in
            let off : c.skip_lf ≡ false = skips_over s v ∙ e in
            let suits : turns_suit s of_act of_test (bound (settled c)) t (settled c) ≡ true =
            sym (ap (λ b. if b && is_line_feed t then rest_suits (after_first t) (settled c) else turns_suit s of_act of_test (bound (settled c)) t (settled c)) off) ∙ i in
            subst (λ b. EndsOver s v end (if b && is_line_feed t then handled_rest (settled c) (after_first t) else all_turns (settled c) t)) (sym off)
            (subst (λ x. EndsOver s v end (all_turns x t)) (sym (settled_same c off))
            (turns_over t v read st valid (sym (ap (λ x. turns_suit s of_act of_test (bound x) t x) (settled_same c off)) ∙ suits)))
