use Rattle.hp_lex_raw.proofs.Reading.{telling, told_rows}
use Rattle.hp_tokens.proofs.Told.{IfOk_then}
use Rattle.hp_lex_raw.proofs.raw.RawLexes.end.Goals as goal

pub returns-clause-step : goal.returns-clause-step
returns-clause-step c = IfOk_then c.end_by_row.result c.end_by_row.ensures.step (λ step steps. steps telling told_rows)
