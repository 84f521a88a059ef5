-- A text that goes into the current node as it comes, over any older state.
use Rattle.std.proofs.Common.{◌≡◌, ℕ, List, [], ◌∷◌, ◌++◌, map, true, refl, sym, ap, ◌∙◌, subst, arith, inl}
use Rattle.std.specs.Prelude.{not, ◌&&◌, drop, slice_get, Result, Ok, Err}
use Rattle.std.specs.List.{list_all}
use Rattle.std.proofs.lemmas.Bool.{and_parts, not-true, true≢false}
use Rattle.hp_elements.specs.declared.kinds.Kinds.TheVariants as kinds
use Rattle.hp_elements.specs.declared.token.Mode.{Mode}
use Rattle.hp_elements.specs.declared.token.Mode.TheVariants as mode
use Rattle.hp_tokens.specs.Rows.{character}
use Rattle.hp_control.specs.declared.question.Crossing.{Crossing}
use Rattle.hp_control.specs.declared.element.OpenElement.{OpenElement}
use Rattle.hp_control.specs.Agree.{AllTrue}
use Rattle.hp_control.specs.Apply.{applied, named_edit, shifted}
use Rattle.hp_control.specs.Composed.{current_is, is_one}
use Rattle.hp_control.specs.Faithful.{Split, StandsOn, state_over}
use Rattle.hp_control.specs.Outcome.{is_older, is_touch}
use Rattle.hp_control.specs.Plan.{asked_by, end_by}
use Rattle.hp_control.specs.States.{ControlState}
use Rattle.hp_control.specs.Truth.{answer_of}
use Rattle.hp_views.specs.Quiet.{paged_part}
use Rattle.hp_views.specs.StackLaws.{current_faithful, full_stack}
use Rattle.hp_views.specs.StackPlans.{current_is_plan}
use Rattle.hp_groves.specs.Joining.{Back, Through}
use Rattle.hp_model.specs.AtOnce.{LeaveSame, handle_at_once}
use Rattle.hp_model.specs.Texts.{as_run, each_at_once, has_html_top, is_text_mode, is_white, white_or_other}
use Rattle.hp_model.specs.Turns.{Handled as Meant}
use Rattle.hp_model.proofs.JoinedTexts.{join-behind}
use Rattle.hp_model.proofs.Texts.{texts_at_once}
use Rattle.hp_acts.specs.HandlePlans.{handle_plan}
use Rattle.hp_acts.specs.Plain.{is_nothing_open}
use Rattle.hp_acts.specs.RowPlans.{Reached}
use Rattle.hp_acts.proofs.PlainRuns.{AsksFirst, asks_first}
use Rattle.hp_acts.proofs.TurnMatches.{mode_over}
use Rattle.hp_older.specs.Laws.{ComesOver, TextsHandled, TextsTaken, TextsTakenBelow}
use Rattle.hp_older.specs.Over.{IsOver, before_html, is_before_html, of_chunk, of_known}
use Rattle.hp_older.proofs.Began.{are-valid}
use Rattle.hp_older.proofs.Tokens.{tokens-handled}
use Rattle.hp_older.proofs.Truly.{ends_so, true-front}

top_over : (next : ℕ) (own older : List OpenElement) → has_html_top own ≡ true → has_html_top (map (shifted next) own ++ older) ≡ true
top_over next [] older h = absurd (cc)
top_over next (e ∷ es) older h = h

pub texts-taken : TextsTaken
texts-taken s v h =
    let both = and_parts (not v.change.skip_lf && is_text_mode v.change.mode) (has_html_top v.change.stack) h in
    let first = and_parts (not v.change.skip_lf) (is_text_mode v.change.mode) both.0 in
    record {
      skips = paged_part v.page (λ c. c.skip_lf) (applied v.change s) (λ p c. refl) ∙ not-true v.change.skip_lf first.0;
      place = ap is_text_mode (mode_over s v) ∙ first.1;
      top = ap has_html_top (full_stack s v) ∙ top_over s.next v.change.stack (drop v.change.popped s.stack) both.1;
    }

-- the first of the stack is HTML
html_top : (es : List OpenElement) → is_one kinds.AnyHtml (slice_get es 0) ≡ true → has_html_top es ≡ true
html_top [] h = absurd (cc)
html_top (e ∷ es) h = h

-- in such a mode there is an html element
not_before : (m : Mode) → is_text_mode m ≡ true → is_before_html m ≡ true → ⊥
not_before mode.Initial h k = absurd (true≢false (sym h))
not_before mode.BeforeHtml h k = absurd (true≢false (sym h))
not_before _ h k = absurd (true≢false (sym k))

pub texts-taken_below : TextsTakenBelow
texts-taken_below text s v old new h found true_all over = record {
  skips = paged_part v.page (λ c. c.skip_lf) (applied v.change s) (λ p c. refl) ∙ not-true v.change.skip_lf first.0;
  place = ap is_text_mode (mode_over s v) ∙ first.1;
  top = html_top (state_over v s).stack (current over);
}
  where
    both : ((not v.change.skip_lf && is_text_mode v.change.mode) ≡ true) × (is_nothing_open v.change.stack ≡ true)
    both = and_parts (not v.change.skip_lf && is_text_mode v.change.mode) (is_nothing_open v.change.stack) h

    first : (not v.change.skip_lf ≡ true) × (is_text_mode v.change.mode ≡ true)
    first = and_parts (not v.change.skip_lf) (is_text_mode v.change.mode) both.0

    asks : AsksFirst old.says v (handle_plan (as_run text) v)
    asks = asks_first old.says (white_or_other (list_all is_white text)) text v h

    told : end_by (answer_of s) (current_is_plan kinds.AnyHtml v) ≡ Ok true
    told =
        ends_so s old new (current_is_plan kinds.AnyHtml v) (Ok true) found
        (true-front s old.says (asked_by old.says (current_is_plan kinds.AnyHtml v)) asks.more (subst (AllTrue s old.says) asks.first true_all))

    stands : StandsOn s v → current_is kinds.AnyHtml (state_over v s) ≡ true
    stands st =
        let e : Ok (current_is kinds.AnyHtml (state_over v s)) ≡ Ok true = sym (current_faithful kinds.AnyHtml s v st) ∙ told in
        cc

    current : IsOver s v → current_is kinds.AnyHtml (state_over v s) ≡ true
    current (of_chunk k) = stands k.stands
    current (before_html k) =
        let same : v.change.mode ≡ s.mode = sym (mode_over s v) ∙ ap (λ (c : ControlState). c.mode) k.same in
        absurd (not_before v.change.mode first.1 (ap is_before_html same ∙ k.early))
    current (of_known k) = stands k.stands

-- what leaves the same was done too
comes_alike : (s : ControlState) (v : Split) (end : Result Reached Crossing) (h k : Meant) → LeaveSame k h → ComesOver s v end h → ComesOver s v end k
comes_alike s v (Err crossing) h k same m = same.touched (is_touch s crossing) ∙ m
comes_alike s v (Ok r) h k same m = record {
  control = m.control ∙ sym same.control;
  edits = Through _ _ _ m.edits (join-behind (map (named_edit s) v.edits) h.outcome.edits k.outcome.edits (Back k.outcome.edits h.outcome.edits same.edits));
  switch = m.switch ∙ sym same.switch;
  stopped = m.stopped ∙ sym same.stopped;
  own = same.touched (is_older s) ∙ m.own;
  over = m.over;
  chunk = m.chunk;
  unpaged = m.unpaged;
}

pub texts-handled : TextsHandled
texts-handled [] s v old new end r true_all over takes none some = absurd (omega (arith, some))
texts-handled (x ∷ xs) s v old new end r true_all over takes none some =
    let c = state_over v s in
    let comes = texts_at_once x xs c (are-valid s v over) takes none in
    comes_alike s v end (handle_at_once c (as_run (x ∷ xs))) (each_at_once c (map character (x ∷ xs))) comes.same
    (tokens-handled (as_run (x ∷ xs)) s v old new end r true_all over (record { read = tt; inside = inl tt }))
