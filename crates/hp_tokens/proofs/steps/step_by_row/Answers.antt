use Rattle.hp_tokens.specs.Moves.{move}
use Rattle.hp_tokens.proofs.Stepping.{by_rows}
use Rattle.hp_tokens.proofs.steps.step_by_row.Goals as goal

pub returns-clause-step : goal.returns-clause-step
returns-clause-step g c = λ rules rows. c.in_ok-emitted.ensures.step (move rules) (by_rows rules g.T.Table.has_row g.T.Table.row_of rows)
