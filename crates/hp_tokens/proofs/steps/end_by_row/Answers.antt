use Rattle.std.proofs.Common.{not, nat_eq, length, None, refl, subst}
use Rattle.hp_tokens.specs.declared.rows.Reads.{Reads}
use Rattle.hp_tokens.specs.Rows.{Follows}
use Rattle.hp_tokens.specs.Moves.{end_move}
use Rattle.hp_tokens.specs.Advancing.{unread}
use Rattle.hp_tokens.proofs.Stepping.{none_left, end_by_rows, reread_end, ended_there}
use Rattle.hp_tokens.proofs.steps.end_by_row.Goals as goal

pub returns-in-Some-clause-step : goal.returns-in-Some-clause-step
returns-in-Some-clause-step g c = λ rules rows rested settled.
    (c.in_ok-read.field-0, c.in_ok-read.ensures.step (end_move rules) (end_by_rows rules g.T.Table.has_row g.T.Table.row_of rows) rested settled)

pub returns-in-Again-clause-step : goal.returns-in-Again-clause-step
returns-in-Again-clause-step g c = λ rules rows rested settled.
    let P : Reads → Type 0 = λ x. Follows (g.T.Table.row_of c.args.state.now.machine None) c.args.tokens.now c.row.new.machine c.row.new.tokens x in (
      not (nat_eq (length c.row.new.tokens) (length c.args.tokens.now)),
      reread_end g.T.Table.has_row g.T.Table.row_of rules rows c.args.state.now c.args.input.now c.row.new.machine rested _ _ _
          c.requires.row (g.met.T.Table.fine c.args.state.now.machine None c.requires.row) (none_left (unread c.args.state.now c.args.input.now) c.in_default.ensures) settled refl
          (subst P c.in-Again.is c.in_ok-row.ensures),
    )

pub returns-in-End-clause-step : goal.returns-in-End-clause-step
returns-in-End-clause-step g c = λ rules rows rested settled.
    let P : Reads → Type 0 = λ x. Follows (g.T.Table.row_of c.args.state.now.machine None) c.args.tokens.now c.row.new.machine c.row.new.tokens x in
    ended_there g.T.Table.has_row g.T.Table.row_of rules rows c.args.state.now c.args.input.now c.row.new.machine rested _ _
    (not (nat_eq (length c.row.new.tokens) (length c.args.tokens.now)))
    c.requires.row (g.met.T.Table.fine c.args.state.now.machine None c.requires.row) (none_left (unread c.args.state.now c.args.input.now) c.in_default.ensures) settled refl
    (subst P c.in-End.is c.in_ok-row.ensures)
