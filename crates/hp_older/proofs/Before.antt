-- Before the html element a token crosses at what no chunk knows, but a line feed that is skipped.
use Rattle.std.proofs.Common.{◌≡◌, ℕ, zero, suc, ◌<◌, [], ◌∷◌, ◌++◌, Bool, true, false, ◌==◌, ◌&&◌, ◌||◌, Option, None, Some, refl, sym, subst, ap, ◌∙◌, arith, append-nil}
use Rattle.std.specs.Prelude.{if◌then◌else◌, Err, map}
use Rattle.std.specs.Option.{unwrap_or}
use Rattle.std.proofs.lemmas.Bool.{lt-ltb, true≢false}
use Rattle.hp_elements.specs.Tokens.{kind_of}
use Rattle.hp_elements.specs.declared.token.Mode.{Mode}
use Rattle.hp_elements.specs.declared.token.Mode.TheVariants as mode
use Rattle.hp_elements.specs.declared.token.Token.{Token}
use Rattle.hp_elements.specs.declared.token.Token.TheVariants as token
use Rattle.hp_control.specs.declared.change.Change.{Change}
use Rattle.hp_control.specs.declared.question.Answer.{Answer}
use Rattle.hp_control.specs.declared.question.Crossing.{Crossing}
use Rattle.hp_control.specs.declared.question.Crossing.TheVariants.{X4}
use Rattle.hp_control.specs.declared.question.Question.{Question}
use Rattle.hp_control.specs.Acts.{headed, touching}
use Rattle.hp_control.specs.Apply.{applied, named_edit}
use Rattle.hp_control.specs.Faithful.{IsBase, Split, state_over}
use Rattle.hp_control.specs.Foreign.{is_foreign}
use Rattle.hp_control.specs.Outcome.{becomes, touches}
use Rattle.hp_control.specs.Plan.{crosses, end_by, followed_by}
use Rattle.hp_control.specs.States.{ControlState, IsValid, NothingOpen, StackFits, is_rooted}
use Rattle.hp_control.specs.Truth.{answer_of}
use Rattle.hp_foreign.specs.Plans.{goes_plan}
use Rattle.hp_views.specs.Quiet.{paged, paged_part}
use Rattle.hp_model.specs.AtOnce.{after_first, handle_at_once}
use Rattle.hp_model.specs.AtOnce.{handle_rest as handled_rest}
use Rattle.hp_model.specs.Handling.{all_turns, bound, settled}
use Rattle.hp_model.specs.Rows.{entering, foreign_turn, is_head_mode, mode_turn, turn}
use Rattle.hp_model.specs.Tokens.{is_line_feed}
use Rattle.hp_model.specs.Turns.{Handled, Turn, goes_on, done, again, after_turn, before_all, left_by, turns, unchanged}
use Rattle.hp_model.specs.Whole.{IsRead}
use Rattle.hp_model.proofs.Handled.{settled-valid, turns_of_token}
use Rattle.hp_model.proofs.JoinedTexts.{join-equal}
use Rattle.hp_acts.specs.HandlePlans.{all_turns_plan, handle_plan, handle_rest, most_turns, turns_plan, where_again, without_line_feed}
use Rattle.hp_acts.specs.Handling.{nothing_asked, unskipped}
use Rattle.hp_acts.specs.RowPlans.{Reached, dispatched, is_early, turn_plan}
use Rattle.hp_acts.proofs.Matching.{made_by, touched_before, touched_first}
use Rattle.hp_acts.proofs.TurnMatches.{mode_over}
use Rattle.hp_older.specs.Laws.{ComesOver}
use Rattle.hp_older.specs.Over.{IsBefore, IsChunk, before_html, is_before_html}

-- in such a mode nothing is open, and the page's head isn't done
none_open : (m : Mode) (c : ControlState) → is_before_html m ≡ true → StackFits m c → NothingOpen c
none_open mode.Initial c h k = k
none_open mode.BeforeHtml c h k = k
none_open _ c h k = absurd (true≢false (sym h))

in_head : (m : Mode) → is_before_html m ≡ true → is_head_mode m ≡ true
in_head mode.Initial h = refl
in_head mode.BeforeHtml h = refl
in_head _ h = absurd (true≢false (sym h))

-- a token in a mode before the body touches what no chunk knows at its first turn, and so do all its turns
turn_touched : (s : ControlState) (t : Token) (c : ControlState) → 0 < s.next → is_head_mode c.mode ≡ true → touches s X4 (made_by (turn t c)) ≡ true
unfolding turn
turn_touched s t c first h =
    touched_before s X4 (entering c) (if is_foreign (kind_of t) c.stack then foreign_turn t c else mode_turn t c.mode c)
    (ap (λ b. touches s X4 (if b then touching headed (becomes c) else becomes c)) h ∙ ap (λ b. b || false) (lt-ltb 0 s.next first))

all_touched : (s : ControlState) (crossing : Crossing) (n : ℕ) (t : Token) (c : ControlState) (h : Handled) → touches s crossing (made_by (turn t c)) ≡ true → turns turn n t c ≡ Some h → touches s crossing h.outcome ≡ true
all_touched s crossing zero t c h m e = absurd (cc)
all_touched s crossing (suc n) t c h m e = go (turn t c) m e
  where
    behind : (k : Handled) (o : Option Handled) → touches s crossing k.outcome ≡ true → before_all k o ≡ Some h → touches s crossing h.outcome ≡ true
    behind k None m e = absurd (cc)
    behind k (Some j) m e = subst (λ o. touches s crossing (unwrap_or o k).outcome ≡ true) e (touched_first s crossing k.outcome j.outcome m)

    go : (u : Turn) → touches s crossing (made_by u) ≡ true → after_turn u (turns turn n) ≡ Some h → touches s crossing h.outcome ≡ true
    go (goes_on k) m e = subst (λ o. touches s crossing (unwrap_or o k).outcome ≡ true) e m
    go (done k) m e = subst (λ o. touches s crossing (unwrap_or o k).outcome ≡ true) e m
    go (again other k) m e = behind k (turns turn n other (left_by k)) m e

token_touches : (s : ControlState) (t : Token) (c : ControlState) → IsRead t → IsValid c → 0 < s.next → is_head_mode c.mode ≡ true → touches s X4 (all_turns c t).outcome ≡ true
token_touches s t c read valid first h =
    let (k, ended) = turns_of_token t c read valid in
    subst (λ o. touches s X4 (unwrap_or o (unchanged c)).outcome ≡ true) (sym ended.0) (all_touched s X4 (bound c) t c k (turn_touched s t c first h) ended.0)

-- its plan crosses before anything is asked
turns_cross : (says : Question → Answer) (n : ℕ) (t : Token) (r : Reached) → 0 < n → is_early r.split.page r.split.change.mode ≡ true → end_by says (turns_plan n t r) ≡ Err X4
unfolding turns_plan turn_plan
turns_cross says zero t r some e = absurd (omega arith)
turns_cross says (suc n) t r some e =
    ap (λ b. end_by says (followed_by (if b then crosses X4 else followed_by (goes_plan (kind_of t) r.split) (dispatched t r.split.change.mode r)) (where_again (turns_plan n)))) e

token_crosses : (says : Question → Answer) (t : Token) (v : Split) → is_early v.page v.change.mode ≡ true → end_by says (all_turns_plan t v) ≡ Err X4
token_crosses says t v e =
    let some : 0 < most_turns v = omega arith in
    turns_cross says (most_turns v) t (record { split = v; handled = nothing_asked }) some e

-- what is left of a token where a line feed is skipped
abbrev left_of : Token → Option Token
left_of t = if is_line_feed t then after_first t else Some t

abbrev AreRead : Option Token → Type 0
AreRead None = Unit {0}
AreRead (Some t) = IsRead t

left_read : (t : Token) → IsRead t → AreRead (left_of t)
left_read (token.Characters class []) read = tt
left_read (token.Characters class (x ∷ [])) read = go (x == 0xA)
  where
    go : (b : Bool) → AreRead (if b then None else Some (token.Characters class (x ∷ [])))
    go true = tt
    go false = tt
left_read (token.Characters class (x ∷ y ∷ text)) read = go (x == 0xA)
  where
    go : (b : Bool) → AreRead (if b then Some (token.Characters class (y ∷ text)) else Some (token.Characters class (x ∷ y ∷ text)))
    go true = tt
    go false = tt
left_read (token.Start self_closing tag) read = read
left_read (token.EndTag name) read = read
left_read (token.Comment text) read = read
left_read (token.Doctype parts) read = read
left_read token.EndOfInput read = read

left_planned : (t : Token) → without_line_feed t ≡ left_of t
left_planned (token.Characters class []) = refl
left_planned (token.Characters class (x ∷ [])) = refl
left_planned (token.Characters class (x ∷ y ∷ text)) = refl
left_planned (token.Start self_closing tag) = refl
left_planned (token.EndTag name) = refl
left_planned (token.Comment text) = refl
left_planned (token.Doctype parts) = refl
left_planned token.EndOfInput = refl

left_handled : (c : ControlState) (t : Token) (o : Option Token) (b : Bool) → (if b then handled_rest c o else all_turns c t) ≡ handled_rest c (if b then o else Some t)
left_handled c t o true = refl
left_handled c t o false = refl

module _ (s : ControlState) (v : Split) (k : IsBefore s v) where
  abbrev c : ControlState
  c = state_over v s

  early : is_before_html c.mode ≡ true
  early = ap (λ (x : ControlState). is_before_html x.mode) k.same ∙ k.early

  open_none : NothingOpen c
  open_none = none_open c.mode c early k.valid.stack

  pub nothing_open : s.stack ≡ []
  nothing_open = sym (ap (λ (x : ControlState). x.stack) k.same) ∙ open_none.0

  first : 0 < s.next
  first =
      let here : c.next ≡ s.next = ap (λ (x : ControlState). x.next) k.same in
      let one : c.next ≡ 1 = open_none.1 in
      omega (arith, here, one)

  -- no chunk stands so
  pub no_chunk : IsChunk s v → ⊥
  no_chunk h = true≢false (sym (subst (λ p. IsBase p v.change s) h.unpaged h.stands.base).rooted ∙ ap is_rooted nothing_open)

  view_early : is_early v.page v.change.mode ≡ true
  view_early = ap (λ p. is_early p v.change.mode) k.unpaged ∙ (ap is_head_mode (sym (mode_over s v)) ∙ in_head c.mode early)

  settled_over : state_over (unskipped v) s ≡ settled c
  settled_over = paged v.page settled (applied v.change s) (λ p x. refl)

  skipped : IsBefore s (unskipped v)
  skipped = record {
    older = k.older;
    early = k.early;
    unpaged = k.unpaged;
    unchanged = ap (λ (x : Change). record x { skip_lf = false }) k.unchanged;
    same = settled_over ∙ ap settled k.same;
    valid = subst (λ x. IsValid x) (sym settled_over) (settled-valid c k.valid);
  }

  crossed : (t : Token) → IsRead t → touches s X4 (all_turns (settled c) t).outcome ≡ true
  crossed t read = token_touches s t (settled c) read (settled-valid c k.valid) first (in_head c.mode early)

  rest_comes : (o : Option Token) → AreRead o → ComesOver s v (end_by (answer_of s) (handle_rest o (unskipped v))) (handled_rest (settled c) o)
  rest_comes None read = record {
    control = settled_over;
    edits = join-equal (map (named_edit s) v.edits) (map (named_edit s) v.edits ++ []) (sym (append-nil (map (named_edit s) v.edits)));
    switch = refl;
    stopped = refl;
    own = refl;
    over = before_html skipped;
    chunk = λ h. absurd (no_chunk h);
    unpaged = λ none. none;
  }
  rest_comes (Some t) read = subst (λ e. ComesOver s v e (all_turns (settled c) t)) (sym (token_crosses (answer_of s) t (unskipped v) view_early)) (crossed t read)

  pub before_comes : (t : Token) → IsRead t → ComesOver s v (end_by (answer_of s) (handle_plan t v)) (handle_at_once c t)
  before_comes t read = go v.change.skip_lf refl
    where
      skips : c.skip_lf ≡ v.change.skip_lf
      skips = paged_part v.page (λ x. x.skip_lf) (applied v.change s) (λ p x. refl)

      go : (b : Bool) → v.change.skip_lf ≡ b → ComesOver s v (end_by (answer_of s) (if b then handle_rest (without_line_feed t) (unskipped v) else all_turns_plan t v)) (handle_at_once c t)
      go true e =
          let rest = left_of t in
          let meant : handle_at_once c t ≡ handled_rest (settled c) rest =
          ap (λ b. if b && is_line_feed t then handled_rest (settled c) (after_first t) else all_turns (settled c) t) (skips ∙ e) ∙ left_handled (settled c) t (after_first t) (is_line_feed t) in
          subst (λ h. ComesOver s v (end_by (answer_of s) (handle_rest (without_line_feed t) (unskipped v))) h) (sym meant)
          (subst (λ o. ComesOver s v (end_by (answer_of s) (handle_rest o (unskipped v))) (handled_rest (settled c) rest)) (sym (left_planned t)) (rest_comes rest (left_read t read)))
      go false e =
          let meant : handle_at_once c t ≡ all_turns (settled c) t = ap (λ b. if b && is_line_feed t then handled_rest (settled c) (after_first t) else all_turns (settled c) t) (skips ∙ e) in
          subst (λ h. ComesOver s v (end_by (answer_of s) (all_turns_plan t v)) h) (sym meant)
          (subst (λ r. ComesOver s v r (all_turns (settled c) t)) (sym (token_crosses (answer_of s) t v view_early)) (crossed t read))
