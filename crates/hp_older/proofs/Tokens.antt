-- Each token of a chunk.
use Rattle.std.proofs.Common.{◌≡◌, ◌<◌, Bool, true, false, refl, sym, ap, ◌∙◌, subst, inl, inr, arith, [], ◌∷◌, ◌&&◌, Option, None, Some}
use Rattle.std.specs.Prelude.{◌⊎◌, if◌then◌else◌, Result, Ok, Err}
use Rattle.std.proofs.lemmas.Bool.{true≢false}
use Rattle.hp_elements.specs.declared.token.Token.{Token}
use Rattle.hp_elements.specs.declared.token.Token.TheVariants as token
use Rattle.hp_control.specs.declared.change.Change.{Change}
use Rattle.hp_control.specs.declared.question.Crossing.{Crossing}
use Rattle.hp_control.specs.Faithful.{IsBase, Page, Split, StandsOn, state_over}
use Rattle.hp_control.specs.Nothing.{nothing}
use Rattle.hp_control.specs.Outcome.{touches_any}
use Rattle.hp_control.specs.Plan.{asked_by, end_by, noting}
use Rattle.hp_control.specs.States.{ControlState, IsValid}
use Rattle.hp_control.specs.Truth.{answer_of}
use Rattle.hp_model.specs.AtOnce.{after_first, handle_at_once, handle_rest}
use Rattle.hp_model.specs.Growth.{IsInside}
use Rattle.hp_model.specs.Handling.{all_turns, settled}
use Rattle.hp_model.specs.Tokens.{is_line_feed}
use Rattle.hp_model.specs.Turns.{Handled, left_by}
use Rattle.hp_model.specs.Whole.{IsRead}
use Rattle.hp_model.proofs.Handled.{all_turns-valid, settled-valid}
use Rattle.hp_acts.specs.HandlePlans.{handle_plan}
use Rattle.hp_acts.specs.Older.{EndsOver}
use Rattle.hp_acts.specs.RowPlans.{Reached}
use Rattle.hp_acts.proofs.KnownMatches.{handled_known}
use Rattle.hp_acts.proofs.OlderMatches.{older_handled}
use Rattle.hp_older.specs.GoesOn.{GoesOn}
use Rattle.hp_older.specs.Laws.{ComesOver, TokensGoOn, TokensHandled, TokensTold}
use Rattle.hp_older.specs.Over.{IsChunk, IsOver, MayCome, before_html, of_chunk, of_known}
use Rattle.hp_older.proofs.Before.{before_comes}
use Rattle.hp_older.proofs.Chunks.{Chunk, at_once_told}
use Rattle.hp_older.proofs.Truly.{ends_so, own-true, true_heard}

-- over an older state of a page there are ids
some_made : (s : ControlState) (v : Split) → v.page ≡ None → IsBase v.page v.change s → 0 < s.next
some_made s v e b = (subst (λ p. IsBase p v.change s) e b).made

pub first_of : (s : ControlState) (v : Split) → IsChunk s v → 0 < s.next
first_of s v k = some_made s v k.unpaged k.stands.base

chunk_of : (s : ControlState) (v : Split) → IsChunk s v → Chunk s (state_over v s)
chunk_of s v k = record { view = v; stands = k.stands; is = refl; goes_on = k.goes_on }

pub tokens-told : TokensTold
tokens-told t s v k read inside = (at_once_told s (first_of s v k) t (state_over v s) read inside k.valid (chunk_of s v k)).0

left_on : (s : ControlState) (h : Handled) → (touches_any s h.outcome ≡ true) ⊎ Chunk s (left_by h) → touches_any s h.outcome ≡ false → GoesOn s (left_by h)
left_on s h (inl t) own = absurd (true≢false (sym t ∙ own))
left_on s h (inr x) own = x.goes_on

pub tokens-go_on : TokensGoOn
tokens-go_on t s v k read inside own = left_on s (handle_at_once (state_over v s) t) (at_once_told s (first_of s v k) t (state_over v s) read inside k.valid (chunk_of s v k)).1 own

-- what is left is valid
rest_valid : (t : Token) (c : ControlState) → IsValid c → IsValid (left_by (handle_rest c (after_first t)))
rest_valid (token.Characters class (x ∷ y ∷ text)) c valid = all_turns-valid (token.Characters class (y ∷ text)) c tt valid
rest_valid (token.Characters class (x ∷ [])) c valid = valid
rest_valid (token.Characters class []) c valid = valid
rest_valid (token.Start self_closing tag) c valid = valid
rest_valid (token.EndTag name) c valid = valid
rest_valid (token.Comment text) c valid = valid
rest_valid (token.Doctype parts) c valid = valid
rest_valid token.EndOfInput c valid = valid

pub at_once_valid : (t : Token) (c : ControlState) → IsRead t → IsValid c → IsValid (left_by (handle_at_once c t))
at_once_valid t c read valid = go (c.skip_lf && is_line_feed t)
  where
    go : (b : Bool) → IsValid (left_by (if b then handle_rest (settled c) (after_first t) else all_turns (settled c) t))
    go true = rest_valid t (settled c) (settled-valid c valid)
    go false = all_turns-valid t (settled c) read (settled-valid c valid)

-- no page comes
none_made : (s : ControlState) → s ≡ nothing → 0 < s.next → ⊥
none_made s e h = let none : s.next ≡ 0 = ap (λ (y : ControlState). y.next) e in absurd (omega (arith, h, none))

unpaged : (s : ControlState) (page : Option Page) (c : Change) → IsBase page c s → 0 < s.next → page ≡ None
unpaged s None c b l = refl
unpaged s (Some p) c b l = absurd (none_made s b l)

-- in a chunk
chunk_ends : (t : Token) (s : ControlState) (v : Split) → IsChunk s v → IsRead t → IsInside t → EndsOver s v (end_by (answer_of s) (handle_plan t v)) (handle_at_once (state_over v s) t)
chunk_ends t s v k read inside =
    let asked = asked_by (answer_of s) (handle_plan t v) in
    older_handled t v (true_heard s) (noting (true_heard s) asked) (end_by (answer_of s) (handle_plan t v)) s (record { ends = refl; noted = refl }) (own-true s asked) k.stands k.valid read (tokens-told t s v k read inside)

chunk_comes : (t : Token) (s : ControlState) (v : Split) → IsChunk s v → IsRead t → IsInside t → ComesOver s v (end_by (answer_of s) (handle_plan t v)) (handle_at_once (state_over v s) t)
chunk_comes t s v k read inside = go (end_by (answer_of s) (handle_plan t v)) (chunk_ends t s v k read inside)
  where
    h : Handled
    h = handle_at_once (state_over v s) t

    go : (e : Result Reached Crossing) → EndsOver s v e h → ComesOver s v e h
    go (Err crossing) m = m
    go (Ok x) m =
        let left : IsChunk s x.split = record {
          stands = m.stands;
          unpaged = unpaged s x.split.page x.split.change m.stands.base (first_of s v k);
          valid = subst (λ c. IsValid c) (sym m.control) (at_once_valid t (state_over v s) read k.valid);
          goes_on = subst (λ c. GoesOn s c) (sym m.control) (tokens-go_on t s v k read inside m.own);
        } in
        record { control = m.control; edits = m.edits; switch = m.switch; stopped = m.stopped; own = m.own; over = of_chunk left; chunk = λ again. left; unpaged = λ none. left.unpaged }

-- over nothing
known_comes : (t : Token) (v : Split) → IsRead t → StandsOn nothing v → IsValid (state_over v nothing) → ComesOver nothing v (end_by (answer_of nothing) (handle_plan t v)) (handle_at_once (state_over v nothing) t)
known_comes t v read stands valid = go (end_by (answer_of nothing) (handle_plan t v)) (handled_known t v read stands valid)
  where
    h : Handled
    h = handle_at_once (state_over v nothing) t

    go : (e : Result Reached Crossing) → EndsOver nothing v e h → ComesOver nothing v e h
    go (Err crossing) m = m
    go (Ok x) m = record {
      control = m.control;
      edits = m.edits;
      switch = m.switch;
      stopped = m.stopped;
      own = m.own;
      over = of_known (record { nothing_older = refl; stands = m.stands; valid = subst (λ c. IsValid c) (sym m.control) (at_once_valid t (state_over v nothing) read valid) });
      chunk = λ k. absurd (none_made nothing refl (first_of nothing v k));
      unpaged = λ none. absurd (none_made nothing refl (some_made nothing v none stands.base));
    }

-- over any older state, by its own answers
pub over_comes : (t : Token) (s : ControlState) (v : Split) → IsOver s v → MayCome s t → ComesOver s v (end_by (answer_of s) (handle_plan t v)) (handle_at_once (state_over v s) t)
over_comes t s v (of_chunk k) may = chunk_comes t s v k may.read (go may.inside)
  where
    go : IsInside t ⊎ (s ≡ nothing) → IsInside t
    go (inl inside) = inside
    go (inr none) = absurd (none_made s none (first_of s v k))
over_comes t s v (before_html k) may = before_comes s v k t may.read
over_comes t s v (of_known k) may =
    let P : ControlState → Type 0 = λ x. StandsOn x v → IsValid (state_over v x) → ComesOver x v (end_by (answer_of x) (handle_plan t v)) (handle_at_once (state_over v x) t) in
    subst P (sym k.nothing_older) (λ stands valid. known_comes t v may.read stands valid) k.stands k.valid

pub tokens-handled : TokensHandled
tokens-handled t s v old new end r true_all over may = subst (λ e. ComesOver s v e (handle_at_once (state_over v s) t)) (ends_so s old new (handle_plan t v) end r true_all) (over_comes t s v over may)
