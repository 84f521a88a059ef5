use Rattle.std.proofs.Common.{◌≡◌, ◌++◌, drop, length}
use Rattle.hp_select.specs.Rows.{row_behind, row_below}
use Rattle.hp_select.proofs.rows.row_below.Given as goal

-- the entries so far, and those to come
abbrev pub invariant-loop-step : goal.invariant-loop-step
invariant-loop-step l = l.row.items ++ row_behind l.tag l.before (drop (length l.yielded) l.steps) (drop (length l.yielded) l.above) ≡ row_below l.tag l.steps l.above
