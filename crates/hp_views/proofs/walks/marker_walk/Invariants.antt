use Rattle.std.proofs.Common.{◌≡◌, drop}
use Rattle.hp_views.specs.Walks.{marker_of, deeper}
use Rattle.hp_views.proofs.walks.marker_walk.Given as goal

abbrev pub invariant-loop-depth : goal.invariant-loop-depth
invariant-loop-depth l = deeper l.depth (marker_of (drop l.depth l.list)) ≡ marker_of l.list
