use Rattle.hp_lex_raw.specs.Raw.{raw_rules}
use Rattle.hp_lex_raw.proofs.TextRuns.{text_rows}
use Rattle.hp_tokens.proofs.Told.{IfOk_then}
use Rattle.hp_lex_raw.proofs.raw.read_text.Goals as goal

pub returns-clause-step : goal.returns-clause-step
returns-clause-step g c = IfOk_then c.step_in_text.result c.step_in_text.ensures.step (λ step steps. steps raw_rules text_rows)
