use Rattle.std.proofs.Common.{◌≡◌, List, true, sym, subst}
use Rattle.std.specs.Prelude.{IfOk}
use Rattle.hp_elements.specs.declared.token.Token.{Token}
use Rattle.hp_tokens.specs.declared.rows.Step.TheVariants.{Made}
use Rattle.hp_tokens.specs.Reading.{Unread}
use Rattle.hp_tokens.specs.Moves.{Rules, move}
use Rattle.hp_tokens.specs.Advancing.{HasRows, Steps}
use Rattle.hp_tokens.proofs.Stepping.{by_rows}
use Rattle.hp_tokens.proofs.runs.step_in_text.Goals as goal

pub returns-in-Some-clause-step : goal.returns-in-Some-clause-step
returns-in-Some-clause-step g c = λ rules rows.
    let P : List Token → Type 0 = λ ts. Steps (move rules) c.args.state.now c.args.input.now c.args.tokens.now c.args.state.now c.text_run.new.input ts (Made true) in
    subst P (sym c.in_ok-push_token.ensures) (c.in-Some.ensures.ran (move rules) (by_rows rules g.T.Table.has_row g.T.Table.row_of rows) c.args.tokens.now)

pub returns-clause-step : goal.returns-clause-step
returns-clause-step g c =
    let same : c.text_run.new.input ≡ c.args.input.now = c.in_default.ensures.ran in
    let Q : Unread → Type 0 = λ u.
    IfOk c.step_by_row.result (λ step. (rules : Rules) → HasRows rules g.T.Table.has_row g.T.Table.row_of
    → Steps (move rules) c.args.state.now u c.args.tokens.now c.step_by_row.new.state c.step_by_row.new.input c.step_by_row.new.tokens step) in
    subst Q same c.step_by_row.ensures.step
