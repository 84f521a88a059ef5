use Rattle.std.proofs.Common.{[]}
use Rattle.hp_tokens.specs.Moves.{move}
use Rattle.hp_tokens.proofs.Stepping.{by_rows}
use Rattle.hp_tokens.proofs.OneByOne.{one_token}
use Rattle.hp_tokens.proofs.Grouping.{one_group}
use Rattle.hp_tokens.proofs.runs.next_text.Goals as goal

pub returns-clause-turn : goal.returns-clause-turn
returns-clause-turn g c = λ rules here rows.
    one_token rules here c.args.state.now c.args.input.now c.text_run.new.input c.in_ok-token.token c.args.rested.now c.place-place.result
    c.requires.resting c.place-place.ensures
    (c.in_ok-token.ensures.ran (move rules) (by_rows rules g.T.Table.has_row g.T.Table.row_of rows) [])

pub returns-clause-group : goal.returns-clause-group
returns-clause-group g c = λ rules here rows mine.
    one_group rules here c.args.state.now c.args.input.now c.text_run.new.input c.in_ok-token.token c.args.rested.now c.place-place.result
    mine c.requires.resting c.place-place.ensures
    (c.in_ok-token.ensures.ran (move rules) (by_rows rules g.T.Table.has_row g.T.Table.row_of rows) [])
