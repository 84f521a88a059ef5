use Rattle.std.proofs.Common.{◌≡◌, drop}
use Rattle.std.specs.List.{list_any}
use Rattle.hp_control.specs.States.{is_template}
use Rattle.hp_control.proofs.walks.has_template.Given as goal

abbrev pub invariant-loop-at : goal.invariant-loop-at
invariant-loop-at l = list_any is_template (drop l.at l.stack) ≡ list_any is_template (drop l.depth l.stack)
