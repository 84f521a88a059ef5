use Rattle.std.proofs.Common.{◌≡◌, ◌-◌, drop}
use Rattle.hp_views.specs.Walks.{walk_of, deeper}
use Rattle.hp_views.proofs.walks.element_walk_from.Given as goal

abbrev pub invariant-loop-depth : goal.invariant-loop-depth
invariant-loop-depth l = deeper (l.depth - l.from) (walk_of l.goals l.stops (drop l.depth l.stack)) ≡ walk_of l.goals l.stops (drop l.from l.stack)
