use Rattle.hp_lex_raw.proofs.TextRuns.{raw_blanks, raw_others, any_escaped_blanks, any_escaped_others}
use Rattle.hp_lex_raw.proofs.raw.RawLexes.step.Goals as goal

pub read_text-requires-in-Rawtext-clause-blanks : goal.read_text-requires-in-Rawtext-clause-blanks
read_text-requires-in-Rawtext-clause-blanks c = raw_blanks c.args.state.now.machine.state c.in-Rawtext.is

pub read_text-requires-in-Rawtext-clause-others : goal.read_text-requires-in-Rawtext-clause-others
read_text-requires-in-Rawtext-clause-others c = raw_others c.args.state.now.machine.state c.in-Rawtext.is

pub read_text-requires-in-ScriptDataEscaped-clause-blanks : goal.read_text-requires-in-ScriptDataEscaped-clause-blanks
read_text-requires-in-ScriptDataEscaped-clause-blanks c = any_escaped_blanks c.args.state.now.machine.state c.in-ScriptDataEscaped.is

pub read_text-requires-in-ScriptDataEscaped-clause-others : goal.read_text-requires-in-ScriptDataEscaped-clause-others
read_text-requires-in-ScriptDataEscaped-clause-others c = any_escaped_others c.args.state.now.machine.state c.in-ScriptDataEscaped.is

pub returns-in-Rcdata-clause-step : goal.returns-in-Rcdata-clause-step
returns-in-Rcdata-clause-step c = c.read_text.ensures.step

pub returns-in-Rawtext-clause-step : goal.returns-in-Rawtext-clause-step
returns-in-Rawtext-clause-step c = c.read_text-in-Rawtext.ensures.step

pub returns-in-Plaintext-clause-step : goal.returns-in-Plaintext-clause-step
returns-in-Plaintext-clause-step c = c.read_text-in-Plaintext.ensures.step

pub returns-in-ScriptDataEscaped-clause-step : goal.returns-in-ScriptDataEscaped-clause-step
returns-in-ScriptDataEscaped-clause-step c = c.read_text-in-ScriptDataEscaped.ensures.step

pub returns-in_default-clause-step : goal.returns-in_default-clause-step
returns-in_default-clause-step c = c.read_one.ensures.step
