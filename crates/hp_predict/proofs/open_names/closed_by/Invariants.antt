use Rattle.std.proofs.Common.{◌≡◌, drop}
use Rattle.hp_predict.specs.OpenNames.{below}
use Rattle.hp_predict.proofs.open_names.closed_by.Given as goal

abbrev pub invariant-loop-depth : goal.invariant-loop-depth
invariant-loop-depth l = below l.name l.names ≡ below l.name (drop l.depth l.names)
