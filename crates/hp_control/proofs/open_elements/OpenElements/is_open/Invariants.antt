use Rattle.std.proofs.Common.{◌≡◌, drop}
use Rattle.std.specs.Prelude.{is_some}
use Rattle.hp_control.specs.Walks.{open_at}
use Rattle.hp_control.proofs.open_elements.OpenElements.is_open.Given as goal

abbrev pub invariant-loop-depth : goal.invariant-loop-depth
invariant-loop-depth l = is_some (open_at l.id (drop l.depth l.self)) ≡ is_some (open_at l.id l.self)
