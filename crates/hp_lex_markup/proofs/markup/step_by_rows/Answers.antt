use Rattle.hp_lex_markup.proofs.markup.step_by_rows.Goals as goal

pub returns-in-Comment-clause-step : goal.returns-in-Comment-clause-step
returns-in-Comment-clause-step c = c.step_in_part.ensures.step

pub returns-in-Comment-clause-held : goal.returns-in-Comment-clause-held
returns-in-Comment-clause-held c = c.step_in_part.ensures.held

pub returns-in-BogusComment-clause-step : goal.returns-in-BogusComment-clause-step
returns-in-BogusComment-clause-step c = c.step_in_part-in-BogusComment.ensures.step

pub returns-in-BogusComment-clause-held : goal.returns-in-BogusComment-clause-held
returns-in-BogusComment-clause-held c = c.step_in_part-in-BogusComment.ensures.held

pub returns-in-CdataSection-clause-step : goal.returns-in-CdataSection-clause-step
returns-in-CdataSection-clause-step c = c.step_in_text.ensures.step

pub returns-in-CdataSection-clause-held : goal.returns-in-CdataSection-clause-held
returns-in-CdataSection-clause-held c = c.step_in_text.ensures.held

pub returns-in_default-clause-step : goal.returns-in_default-clause-step
returns-in_default-clause-step c = c.step_by_row.ensures.step

pub returns-in_default-clause-held : goal.returns-in_default-clause-held
returns-in_default-clause-held c = c.step_by_row.ensures.held
