use Rattle.std.proofs.Common.{◌≡◌, ◌-◌, drop}
use Rattle.std.specs.List.{list_any}
use Rattle.hp_acts.specs.Rows.{most_acts}
use Rattle.hp_acts.specs.Spending.{reads_attributes}
use Rattle.hp_acts.proofs.turns.is_read_from.Given as goal

abbrev pub invariant-loop-act : goal.invariant-loop-act
invariant-loop-act l = list_any reads_attributes (drop l.fn.from l.row.acts.now) ≡ list_any reads_attributes (drop l.at l.row.acts.now)

abbrev pub decreases-loop-act : goal.decreases-loop-act
decreases-loop-act l = most_acts - l.at
