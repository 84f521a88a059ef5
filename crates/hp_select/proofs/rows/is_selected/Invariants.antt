use Rattle.std.proofs.Common.{◌≡◌, drop, length}
use Rattle.std.specs.Prelude.{◌&&◌, ◌||◌}
use Rattle.hp_select.specs.Matching.{is_end}
use Rattle.hp_select.specs.Rows.{is_selected}
use Rattle.hp_select.proofs.rows.is_selected.Given as goal

-- the chain up to the last step is here, and ends there, or one of those to come is
abbrev pub invariant-loop-step : goal.invariant-loop-step
invariant-loop-step l =
    ((is_end (drop (length l.yielded) l.steps) && l.is_last_here) || is_selected (drop (length l.yielded) l.steps) (drop (length l.yielded) l.row)) ≡ is_selected l.steps l.row
