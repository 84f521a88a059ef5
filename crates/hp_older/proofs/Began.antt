-- Where a view begins over an older state, and that its edits are no part of that.
use Rattle.std.proofs.Common.{◌≡◌, ◌⊎◌, inl, inr, true, refl, sym, ap, ◌∙◌, subst}
use Rattle.hp_elements.specs.declared.token.Mode.{Mode}
use Rattle.hp_elements.specs.declared.token.Mode.TheVariants as mode
use Rattle.hp_control.specs.declared.question.Answer.{Answer}
use Rattle.hp_control.specs.declared.question.Answer.TheVariants as answer
use Rattle.hp_control.specs.declared.question.Question.TheVariants as ask
use Rattle.hp_control.specs.Apply.{IsOlder}
use Rattle.hp_control.specs.Faithful.{Split, state_over}
use Rattle.hp_control.specs.States.{ControlState, IsValid, StackFits, is_rooted}
use Rattle.hp_control.specs.Truth.{answer_of}
use Rattle.hp_control.proofs.OlderLemmas.{valid_older}
use Rattle.hp_views.specs.BeginLaws.{IsResting, begins_same, starts_over}
use Rattle.hp_views.specs.Begins.{begins, begun, begun_by}
use Rattle.hp_older.specs.GoesOn.{GoesOn}
use Rattle.hp_older.specs.Laws.{AreValid, IsBegun, KnownBegin, StayUnedited, ViewsBegin}
use Rattle.hp_older.specs.Over.{IsChunk, IsOver, before_html, is_before_html, of_chunk, of_known}
use Rattle.hp_older.proofs.Beginning.{begins as goes_on_itself}

-- a valid state is before the html element, or that is open
by_mode : (m : Mode) (s : ControlState) → StackFits m s → (is_before_html m ≡ true) ⊎ (is_rooted s.stack ≡ true)
by_mode mode.Initial s h = inl refl
by_mode mode.BeforeHtml s h = inl refl
by_mode mode.Text s h = inr h.0
by_mode _ s h = inr h

-- nothing is changed at the start
none_changed : (told : Answer) → begun_by told ≡ begun (begun_by told).lex (begun_by told).mode (begun_by told).original (begun_by told).skip_lf
none_changed (answer.Resting rest after_cr m original skip_lf) = refl
none_changed _ = refl

module _ (s : ControlState) (valid : IsValid s) (older : IsOlder s) (rests : IsResting (answer_of s ask.Entry)) where
  abbrev v : Split
  v = begins (answer_of s ask.Entry)

  same : state_over v s ≡ s
  same = begins_same s valid rests

  valid_there : IsValid (state_over v s)
  valid_there = subst (λ c. IsValid c) (sym same) valid

  begun_chunk : is_rooted s.stack ≡ true → IsChunk s v
  begun_chunk root = record {
    stands = (starts_over s valid older root rests).stands;
    unpaged = refl;
    valid = valid_there;
    goes_on = subst (λ c. GoesOn s c) (sym same) (goes_on_itself s valid);
  }

  begun_over : (is_before_html s.mode ≡ true) ⊎ (is_rooted s.stack ≡ true) → IsOver s v
  begun_over (inl early) = before_html (record {
    older = older;
    early = early;
    unpaged = refl;
    unchanged = none_changed (answer_of s ask.Entry);
    same = same ∙ ap (λ b. record s { skip_lf = b }) (sym (ap (λ (c : ControlState). c.skip_lf) same));
    valid = valid_there;
  })
  begun_over (inr root) = of_chunk (begun_chunk root)

  begun_there : IsBegun s v
  begun_there = record { same = same; over = begun_over (by_mode s.mode s valid.stack); chunk = begun_chunk }

pub views-begin : ViewsBegin
views-begin s told valid fits so rests =
    let P : Answer → Type 0 = λ a. IsResting a → IsBegun s (begins a) in
    subst P so (λ r. begun_there s valid (valid_older s valid fits) r) rests

pub known-begin : KnownBegin
known-begin v stands valid = of_known (record { nothing_older = refl; stands = stands; valid = valid })

pub are-valid : AreValid
are-valid s v (of_chunk k) = k.valid
are-valid s v (before_html k) = k.valid
are-valid s v (of_known k) = k.valid

pub stay-unedited : StayUnedited
stay-unedited s v es (of_chunk k) = of_chunk (record {
  stands = record { older = k.stands.older; text = k.stands.text; base = k.stands.base };
  unpaged = k.unpaged;
  valid = k.valid;
  goes_on = k.goes_on;
})
stay-unedited s v es (before_html k) = before_html (record { older = k.older; early = k.early; unpaged = k.unpaged; unchanged = k.unchanged; same = k.same; valid = k.valid })
stay-unedited s v es (of_known k) = of_known (record { nothing_older = k.nothing_older; stands = record { older = k.stands.older; text = k.stands.text; base = k.stands.base }; valid = k.valid })
