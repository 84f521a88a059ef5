use Rattle.std.proofs.Common.{◌∙◌, sym}
use Rattle.hp_lex_markup.proofs.WordSteps.{here_row, word_true, markup_rows}
use Rattle.hp_lex_markup.specs.Markup.{markup_rules}
use Rattle.hp_tokens.proofs.Told.{IfOk_then}
use Rattle.hp_lex_markup.proofs.markup.MarkupLexes.end.Goals as goal

pub end-requires-clause-here : goal.end-requires-clause-here
end-requires-clause-here c = word_true _ (sym c.reads_word.ensures ∙ c.if-reads_word.true)

pub end_by_row-requires-clause-row : goal.end_by_row-requires-clause-row
end_by_row-requires-clause-row c = here_row c.args.state.now.machine.state c.requires.here (sym c.reads_word.ensures ∙ c.if-reads_word.false)

pub returns-clause-step : goal.returns-clause-step
returns-clause-step c = IfOk_then c.end_by_row.result c.end_by_row.ensures.step (λ step steps. steps markup_rules markup_rows)

pub returns-clause-held : goal.returns-clause-held
returns-clause-held c = c.end_by_row.ensures.held

pub returns-clause-ended : goal.returns-clause-ended
returns-clause-ended c = c.end_by_row.ensures.ended
