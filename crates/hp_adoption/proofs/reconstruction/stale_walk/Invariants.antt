use Rattle.std.proofs.Common.{◌≡◌, drop}
use Rattle.hp_views.specs.Walks.{deeper}
use Rattle.hp_adoption.specs.ReconPlans.{stale_walk}
use Rattle.hp_adoption.proofs.reconstruction.stale_walk.Given as goal

abbrev pub invariant-loop-depth : goal.invariant-loop-depth
invariant-loop-depth l = deeper l.depth (stale_walk l.change.stack (drop l.depth l.change.formatting)) ≡ stale_walk l.change.stack l.change.formatting
