use Rattle.std.proofs.Common.{◌∙◌, ℕ, List, sym, refl, ap}
use Rattle.hp_tokens.specs.Reading.{first}
use Rattle.hp_tokens.specs.Moves.{Lexing, move}
use Rattle.hp_tokens.specs.Advancing.{unread, lexing}
use Rattle.hp_tokens.proofs.Stepping.{no_pair_at, text_of_some, by_rows, nothing_unread}
use Rattle.hp_lex_markup.specs.Rows.{has_row, row}
use Rattle.hp_lex_markup.specs.Markup.{markup_rules}
use Rattle.hp_lex_markup.proofs.Spelled.{word_fits}
use Rattle.hp_lex_markup.proofs.WordSteps.{markup_rows, needs_more_there, row_there, asked_there, past_there, past_held, stands}
use Rattle.hp_lex_markup.proofs.words.step.Goals as goal

pub returns-in_default-clause-step : goal.returns-in_default-clause-step
returns-in_default-clause-step c = λ rested settled.
    (nothing_unread markup_rules (lexing c.args.state.now c.args.input.now rested) (sym c.peek.ensures ∙ c.in_default.is), refl, refl)

pub returns-then-is_pair_next-clause-step : goal.returns-then-is_pair_next-clause-step
returns-then-is_pair_next-clause-step c = c.drop_line_feed.ensures.dropped _ has_row row c.args.tokens.now (by_rows markup_rules has_row row markup_rows)

pub returns-then-not-decided-clause-step : goal.returns-then-not-decided-clause-step
returns-then-not-decided-clause-step c = λ rested settled.
    let text = text_of_some (unread c.args.state.now c.args.input.now) (sym c.in-Some.ensures) in
    let no_lf = no_pair_at c.args.state.now.machine.after_cr (unread c.args.state.now c.args.input.now) (sym c.is_pair_next.ensures ∙ c.if-is_pair_next.false) c.in-Some.c text.0 text.1 in
    let e = stands c.args.state.now c.args.input.now c.in-Some.c text.0 c.gather.new.state c.gather.new.input rested c.requires.here text.1 no_lf c.in_ok-decided.ensures.same in
    let undecided = c.in_ok-decided.ensures.undecided c.if-not-decided.true in (
      ap (λ (l : Lexing). move markup_rules l) (sym e)
          ∙ needs_more_there c.args.state.now c.args.input.now c.in-Some.c text.0 c.gather.new.state c.gather.new.input rested c.requires.here text.1 no_lf
          c.in_ok-decided.ensures.same undecided.0 undecided.1,
      e,
      refl,
    )

pub read_row-requires-clause-here : goal.read_row-requires-clause-here
read_row-requires-clause-here c = rw c.in_ok-decided.ensures.same.machine c.requires.here

pub read_row-requires-clause-next : goal.read_row-requires-clause-next
read_row-requires-clause-next c = ap (λ (u : List ℕ). first u) c.in_ok-decided.ensures.same.text ∙ sym c.in-Some.ensures

pub returns-in_default-first_word-clause-step : goal.returns-in_default-first_word-clause-step
returns-in_default-first_word-clause-step c = λ rested settled.
    let text = text_of_some (unread c.args.state.now c.args.input.now) (sym c.in-Some.ensures) in
    let no_lf = no_pair_at c.args.state.now.machine.after_cr (unread c.args.state.now c.args.input.now) (sym c.is_pair_next.ensures ∙ c.if-is_pair_next.false) c.in-Some.c text.0 text.1 in
    row_there c.args.state.now c.args.input.now c.in-Some.c text.0 c.gather.new.state c.gather.new.input c.requires.here text.1 no_lf
    c.in_ok-decided.ensures.same (c.in_ok-decided.ensures.closed c.if-not-decided.false)
    c.read_row.new.state c.read_row.new.input rested c.args.tokens.now c.read_row.new.tokens _ c.in_ok-emitted.ensures.step
    (sym c.first_word.ensures ∙ c.in_default-first_word.is) settled

pub returns-then-asks-clause-step : goal.returns-then-asks-clause-step
returns-then-asks-clause-step c = λ rested settled.
    let text = text_of_some (unread c.args.state.now c.args.input.now) (sym c.in-Some.ensures) in
    let no_lf = no_pair_at c.args.state.now.machine.after_cr (unread c.args.state.now c.args.input.now) (sym c.is_pair_next.ensures ∙ c.if-is_pair_next.false) c.in-Some.c text.0 text.1 in (
      asked_there c.args.state.now c.args.input.now c.in-Some.c text.0 c.gather.new.state c.gather.new.input c.requires.here text.1 no_lf
          c.in_ok-decided.ensures.same (c.in_ok-decided.ensures.closed c.if-not-decided.false)
          c.in-Some-first_word.word rested (sym c.in-Some-first_word.ensures) (sym c.asks.ensures ∙ c.if-asks.true),
      stands c.args.state.now c.args.input.now c.in-Some.c text.0 c.gather.new.state c.gather.new.input rested c.requires.here text.1 no_lf c.in_ok-decided.ensures.same,
      refl,
    )

pub read_word-requires : goal.read_word-requires
read_word-requires c = word_fits c.gather.new.state.machine.state c.gather.new.state.ahead c.in-Some-first_word.word (sym c.in-Some-first_word.ensures)

pub returns-clause-step : goal.returns-clause-step
returns-clause-step c = λ rested settled.
    let text = text_of_some (unread c.args.state.now c.args.input.now) (sym c.in-Some.ensures) in
    let no_lf = no_pair_at c.args.state.now.machine.after_cr (unread c.args.state.now c.args.input.now) (sym c.is_pair_next.ensures ∙ c.if-is_pair_next.false) c.in-Some.c text.0 text.1 in
    past_there c.args.state.now c.args.input.now c.in-Some.c text.0 c.gather.new.state c.gather.new.input c.requires.here text.1 no_lf
    c.in_ok-decided.ensures.same (c.in_ok-decided.ensures.closed c.if-not-decided.false)
    c.in-Some-first_word.word c.read_word.new.state rested c.args.tokens.now (sym c.in-Some-first_word.ensures) (sym c.asks.ensures ∙ c.if-asks.false)
    c.in_ok-read_word.ensures settled

pub returns-clause-held : goal.returns-clause-held
returns-clause-held c = past_held c.in-Some-first_word.word c.gather.new.state c.gather.new.input c.read_word.new.state 0 c.in_ok-decided.ensures.same.held c.in_ok-read_word.ensures

pub returns-in_default-clause-held : goal.returns-in_default-clause-held
returns-in_default-clause-held c = c.requires.held

pub returns-then-is_pair_next-clause-held : goal.returns-then-is_pair_next-clause-held
returns-then-is_pair_next-clause-held c = c.drop_line_feed.ensures.held

pub returns-then-not-decided-clause-held : goal.returns-then-not-decided-clause-held
returns-then-not-decided-clause-held c = c.in_ok-decided.ensures.same.held

pub read_row-requires-clause-held : goal.read_row-requires-clause-held
read_row-requires-clause-held c = c.in_ok-decided.ensures.same.held

pub returns-in_default-first_word-clause-held : goal.returns-in_default-first_word-clause-held
returns-in_default-first_word-clause-held c = c.in_ok-emitted.ensures.held

pub returns-then-asks-clause-held : goal.returns-then-asks-clause-held
returns-then-asks-clause-held c = c.in_ok-decided.ensures.same.held
