use Rattle.std.proofs.Common.{◌≡◌, drop}
use Rattle.hp_views.specs.Walks.{run_walk, deeper}
use Rattle.hp_views.proofs.walks.run_of_walk.Given as goal

abbrev pub invariant-loop-depth : goal.invariant-loop-depth
invariant-loop-depth l = deeper l.depth (run_walk l.names (drop l.depth l.stack)) ≡ run_walk l.names l.stack
