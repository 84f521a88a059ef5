use Rattle.std.proofs.Common.{◌-◌}
use Rattle.hp_acts.specs.Carrying.{present_plan, reached}
use Rattle.hp_acts.specs.RowPlans.{rules_plan}
use Rattle.hp_acts.specs.Rows.{most_acts}
use Rattle.hp_acts.proofs.RowRuns.{RowSo}
use Rattle.hp_acts.proofs.turns.+carry_row.Given as goal

abbrev pub decreases-carry_row : goal.decreases-carry_row
decreases-carry_row g l = l.depth

abbrev pub invariant-loop-act : goal.invariant-loop-act
invariant-loop-act g l =
    RowSo (rules_plan l.depth l.fn.turn.token) (present_plan (rules_plan l.depth l.fn.turn.token) l.present) l.fostering l.fn.turn.token l.row.acts.now
    (g.B.Below.heard l.fn.view.below) (reached l.fn.view l.fn.turn) l.at (g.B.Below.heard l.view.below) (reached l.view l.turn) l.turn.token

abbrev pub decreases-loop-act : goal.decreases-loop-act
decreases-loop-act g l = most_acts - l.at
