use Rattle.std.proofs.Common.{◌∙◌, sym, subst, false, not, nat_eq, length, None}
use Rattle.hp_tokens.specs.declared.rows.Reads.{Reads}
use Rattle.hp_tokens.specs.Rows.{Follows}
use Rattle.hp_tokens.specs.Advancing.{unread}
use Rattle.hp_tokens.proofs.Stepping.{no_pair_at, text_of_some, end_by_rows}
use Rattle.hp_lex_markup.specs.Rows.{has_row, row}
use Rattle.hp_lex_markup.specs.Markup.{markup_rules}
use Rattle.hp_lex_markup.proofs.Spelled.{word_fits}
use Rattle.hp_lex_markup.proofs.WordSteps.{markup_rows, none_unread, none_read_at_end, past_at_end, past_held, reread_end, ended_there}
use Rattle.hp_lex_markup.proofs.words.end.Goals as goal

pub returns-in-Again-clause-step : goal.returns-in-Again-clause-step
returns-in-Again-clause-step c = λ rested settled.
    let P : Reads → Type 0 = λ x. Follows (row c.args.state.now.machine None) c.args.tokens.now c.row.new.machine c.row.new.tokens x in (
      not (nat_eq (length c.row.new.tokens) (length c.args.tokens.now)),
      reread_end c.args.state.now c.args.input.now c.row.new.machine rested c.args.tokens.now c.row.new.tokens c.requires.here
          (none_unread (unread c.args.state.now c.args.input.now) (sym c.peek.ensures ∙ c.in_default.is)) settled (subst P c.in-Again.is c.in_ok-row.ensures),
    )

pub returns-in-Again-clause-held : goal.returns-in-Again-clause-held
returns-in-Again-clause-held c = c.requires.held

pub returns-in-End-clause-step : goal.returns-in-End-clause-step
returns-in-End-clause-step c = λ rested settled.
    let P : Reads → Type 0 = λ x. Follows (row c.args.state.now.machine None) c.args.tokens.now c.row.new.machine c.row.new.tokens x in
    ended_there c.args.state.now c.args.input.now c.row.new.machine rested c.args.tokens.now c.row.new.tokens c.requires.here
    (none_unread (unread c.args.state.now c.args.input.now) (sym c.peek.ensures ∙ c.in_default.is)) settled (subst P c.in-End.is c.in_ok-row.ensures)

pub returns-in-End-clause-held : goal.returns-in-End-clause-held
returns-in-End-clause-held c = c.requires.held

pub returns-then-is_pair_next-clause-step : goal.returns-then-is_pair_next-clause-step
returns-then-is_pair_next-clause-step c = λ rested settled.
    (false, c.drop_line_feed.ensures.dropped _ has_row row c.args.tokens.now (end_by_rows markup_rules has_row row markup_rows) rested settled)

pub read_row-requires-clause-next : goal.read_row-requires-clause-next
read_row-requires-clause-next c = sym c.in-Some.ensures

pub returns-in_default-first_word-clause-step : goal.returns-in_default-first_word-clause-step
returns-in_default-first_word-clause-step c = λ rested settled.
    let text = text_of_some (unread c.args.state.now c.args.input.now) (sym c.in-Some.ensures) in
    let no_lf = no_pair_at c.args.state.now.machine.after_cr (unread c.args.state.now c.args.input.now) (sym c.is_pair_next.ensures ∙ c.if-is_pair_next.false) c.in-Some.c text.0 text.1 in
    let by_row = none_read_at_end c.args.state.now c.args.input.now c.in-Some.c c.requires.here c.requires.ended no_lf (sym c.first_word.ensures ∙ c.in_default-first_word.is) in
    (c.in_ok-read_row.field-0, c.in_ok-read_row.ensures.step _ by_row rested settled)

pub read_word-requires : goal.read_word-requires
read_word-requires c = word_fits c.args.state.now.machine.state c.args.state.now.ahead c.in-Some-first_word.word (sym c.in-Some-first_word.ensures)

pub returns-clause-step : goal.returns-clause-step
returns-clause-step c = λ rested settled.
    let text = text_of_some (unread c.args.state.now c.args.input.now) (sym c.in-Some.ensures) in
    let no_lf = no_pair_at c.args.state.now.machine.after_cr (unread c.args.state.now c.args.input.now) (sym c.is_pair_next.ensures ∙ c.if-is_pair_next.false) c.in-Some.c text.0 text.1 in (
      false,
      past_at_end c.args.state.now c.args.input.now c.in-Some.c c.requires.here c.requires.ended no_lf text.0 text.1
          c.in-Some-first_word.word c.read_word.new.state rested c.args.tokens.now (sym c.in-Some-first_word.ensures) c.requires.held c.in_ok-read_word.ensures settled,
    )

pub returns-clause-held : goal.returns-clause-held
returns-clause-held c = past_held c.in-Some-first_word.word c.args.state.now c.args.input.now c.read_word.new.state 0 c.requires.held c.in_ok-read_word.ensures

pub returns-then-is_pair_next-clause-held : goal.returns-then-is_pair_next-clause-held
returns-then-is_pair_next-clause-held c = c.drop_line_feed.ensures.held

pub returns-then-is_pair_next-clause-ended : goal.returns-then-is_pair_next-clause-ended
returns-then-is_pair_next-clause-ended c = c.drop_line_feed.ensures.ended c.requires.ended

pub returns-in_default-first_word-clause-held : goal.returns-in_default-first_word-clause-held
returns-in_default-first_word-clause-held c = c.in_ok-read_row.ensures.held

pub returns-in_default-first_word-clause-ended : goal.returns-in_default-first_word-clause-ended
returns-in_default-first_word-clause-ended c = c.in_ok-read_row.ensures.ended c.requires.ended

pub returns-clause-ended : goal.returns-clause-ended
returns-clause-ended c = c.requires.ended
