use Rattle.std.proofs.Common.{◌≡◌, Bool, sym, subst}
use Rattle.std.specs.Prelude.{IfOk, IsTrue}
use Rattle.hp_tokens.specs.declared.lexing.LexState.{LexState}
use Rattle.hp_tokens.specs.Reading.{Unread}
use Rattle.hp_tokens.specs.Moves.{Rules, move}
use Rattle.hp_tokens.specs.Advancing.{HasRows, Steps}
use Rattle.hp_tokens.specs.Plain.{PutRan}
use Rattle.hp_tokens.proofs.Stepping.{by_rows}
use Rattle.hp_tokens.proofs.runs.step_in_part.Goals as goal

pub returns-then-ran-clause-step : goal.returns-then-ran-clause-step
returns-then-ran-clause-step g c = λ rules rows.
    let P : Bool → Type 0 = λ b. PutRan g.T.Table.has_row g.T.Table.row_of c.args.state.now c.args.input.now c.put_run.new.state c.put_run.new.input b in
    (subst P c.if-ran.true c.in_ok-ran.ensures.ran) (move rules) (by_rows rules g.T.Table.has_row g.T.Table.row_of rows) c.args.tokens.now

pub step_by_row-requires-clause-row : goal.step_by_row-requires-clause-row
step_by_row-requires-clause-row g c =
    let P : Bool → Type 0 = λ b. PutRan g.T.Table.has_row g.T.Table.row_of c.args.state.now c.args.input.now c.put_run.new.state c.put_run.new.input b in
    let Q : LexState → Type 0 = λ s. IsTrue (g.T.Table.has_row s.machine.state) in
    subst Q (sym ((subst P c.if-ran.false c.in_ok-ran.ensures.ran).0)) c.requires.row

pub returns-clause-step : goal.returns-clause-step
returns-clause-step g c =
    let P : Bool → Type 0 = λ b. PutRan g.T.Table.has_row g.T.Table.row_of c.args.state.now c.args.input.now c.put_run.new.state c.put_run.new.input b in
    let same : (c.put_run.new.state ≡ c.args.state.now) × (c.put_run.new.input ≡ c.args.input.now) = subst P c.if-ran.false c.in_ok-ran.ensures.ran in
    let Q : LexState → Unread → Type 0 = λ s u.
    IfOk c.step_by_row.result (λ step. (rules : Rules) → HasRows rules g.T.Table.has_row g.T.Table.row_of
    → Steps (move rules) s u c.args.tokens.now c.step_by_row.new.state c.step_by_row.new.input c.step_by_row.new.tokens step) in
    subst (λ s. Q s c.args.input.now) same.0 (subst (Q c.put_run.new.state) same.1 c.step_by_row.ensures.step)
