use Rattle.std.proofs.Common.{sym, subst}
use Rattle.hp_tokens.specs.declared.state.State.{State}
use Rattle.hp_tokens.specs.Rows.{is_blank}
use Rattle.hp_tokens.specs.Plain.{EmitsPlain, none_of, data_stops}
use Rattle.hp_lex_tags.specs.Rows.{row}
use Rattle.hp_lex_tags.proofs.PlainRows.{data_others, data_blanks}
use Rattle.hp_lex_tags.proofs.tags.read.Goals as goal

pub step_in_text-requires-clause-blanks : goal.step_in_text-requires-clause-blanks
step_in_text-requires-clause-blanks c = let P : State → Type 0 = λ s. EmitsPlain row is_blank s in subst P (sym c.in-Data.is) data_blanks

pub step_in_text-requires-clause-others : goal.step_in_text-requires-clause-others
step_in_text-requires-clause-others c = let P : State → Type 0 = λ s. EmitsPlain row (none_of data_stops) s in subst P (sym c.in-Data.is) data_others

pub returns-in-Data-clause-step : goal.returns-in-Data-clause-step
returns-in-Data-clause-step c = c.step_in_text.ensures.step

pub returns-in-TagName-clause-step : goal.returns-in-TagName-clause-step
returns-in-TagName-clause-step c = c.step_in_part.ensures.step

pub returns-in-AttributeName-clause-step : goal.returns-in-AttributeName-clause-step
returns-in-AttributeName-clause-step c = c.step_in_part-in-AttributeName.ensures.step

pub returns-in-AttributeValueDoubleQuoted-clause-step : goal.returns-in-AttributeValueDoubleQuoted-clause-step
returns-in-AttributeValueDoubleQuoted-clause-step c = c.step_in_part-in-AttributeValueDoubleQuoted.ensures.step

pub returns-in-AttributeValueSingleQuoted-clause-step : goal.returns-in-AttributeValueSingleQuoted-clause-step
returns-in-AttributeValueSingleQuoted-clause-step c = c.step_in_part-in-AttributeValueSingleQuoted.ensures.step

pub returns-in-AttributeValueUnquoted-clause-step : goal.returns-in-AttributeValueUnquoted-clause-step
returns-in-AttributeValueUnquoted-clause-step c = c.step_in_part-in-AttributeValueUnquoted.ensures.step

pub returns-in_default-clause-step : goal.returns-in_default-clause-step
returns-in_default-clause-step c = c.step_by_row.ensures.step

pub returns-in-Data-clause-held : goal.returns-in-Data-clause-held
returns-in-Data-clause-held c = c.step_in_text.ensures.held

pub returns-in-TagName-clause-held : goal.returns-in-TagName-clause-held
returns-in-TagName-clause-held c = c.step_in_part.ensures.held

pub returns-in-AttributeName-clause-held : goal.returns-in-AttributeName-clause-held
returns-in-AttributeName-clause-held c = c.step_in_part-in-AttributeName.ensures.held

pub returns-in-AttributeValueDoubleQuoted-clause-held : goal.returns-in-AttributeValueDoubleQuoted-clause-held
returns-in-AttributeValueDoubleQuoted-clause-held c = c.step_in_part-in-AttributeValueDoubleQuoted.ensures.held

pub returns-in-AttributeValueSingleQuoted-clause-held : goal.returns-in-AttributeValueSingleQuoted-clause-held
returns-in-AttributeValueSingleQuoted-clause-held c = c.step_in_part-in-AttributeValueSingleQuoted.ensures.held

pub returns-in-AttributeValueUnquoted-clause-held : goal.returns-in-AttributeValueUnquoted-clause-held
returns-in-AttributeValueUnquoted-clause-held c = c.step_in_part-in-AttributeValueUnquoted.ensures.held

pub returns-in_default-clause-held : goal.returns-in_default-clause-held
returns-in_default-clause-held c = c.step_by_row.ensures.held
