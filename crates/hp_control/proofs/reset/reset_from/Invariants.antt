use Rattle.std.proofs.Common.{◌≡◌, drop}
use Rattle.hp_control.specs.Walks.{reset_mode}
use Rattle.hp_control.proofs.reset.reset_from.Given as goal

abbrev pub invariant-loop-at : goal.invariant-loop-at
invariant-loop-at l = reset_mode l.has_head l.templates (drop l.at l.stack) ≡ reset_mode l.has_head l.templates (drop l.depth l.stack)
