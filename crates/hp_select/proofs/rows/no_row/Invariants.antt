use Rattle.std.proofs.Common.{◌≡◌, ◌++◌, drop}
use Rattle.hp_select.specs.Rows.{no_row}
use Rattle.hp_select.proofs.rows.no_row.Given as goal

-- the entries so far, and those to come
abbrev pub invariant-loop-step : goal.invariant-loop-step
invariant-loop-step l = l.row.items ++ no_row (drop l._step-index l.steps) ≡ no_row l.steps
