use Rattle.std.proofs.Common.{◌≡◌, drop}
use Rattle.hp_views.specs.Walks.{entry_walk, deeper}
use Rattle.hp_views.proofs.walks.name_walk.Given as goal

abbrev pub invariant-loop-depth : goal.invariant-loop-depth
invariant-loop-depth l = deeper l.depth (entry_walk l.name (drop l.depth l.list)) ≡ entry_walk l.name l.list
