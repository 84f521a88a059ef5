use Rattle.std.proofs.Common.{◌∙◌, sym}
use Rattle.hp_lex_markup.proofs.WordSteps.{here_row, word_true, markup_rows}
use Rattle.hp_lex_markup.specs.Markup.{markup_rules}
use Rattle.hp_tokens.proofs.Told.{IfOk_then}
use Rattle.hp_lex_markup.proofs.markup.MarkupLexes.step.Goals as goal

pub step-requires-clause-here : goal.step-requires-clause-here
step-requires-clause-here c = word_true _ (sym c.reads_word.ensures ∙ c.if-reads_word.true)

pub step_by_rows-requires-clause-row : goal.step_by_rows-requires-clause-row
step_by_rows-requires-clause-row c = here_row c.args.state.now.machine.state c.requires.here (sym c.reads_word.ensures ∙ c.if-reads_word.false)

pub returns-clause-step : goal.returns-clause-step
returns-clause-step c = IfOk_then c.step_by_rows.result c.step_by_rows.ensures.step (λ step steps. steps markup_rules markup_rows)

pub returns-clause-held : goal.returns-clause-held
returns-clause-held c = c.step_by_rows.ensures.held
