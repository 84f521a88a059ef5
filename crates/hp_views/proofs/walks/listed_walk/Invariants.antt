use Rattle.std.proofs.Common.{◌≡◌, drop}
use Rattle.hp_views.specs.Walks.{id_entry_walk, deeper}
use Rattle.hp_views.proofs.walks.listed_walk.Given as goal

abbrev pub invariant-loop-depth : goal.invariant-loop-depth
invariant-loop-depth l = deeper l.depth (id_entry_walk l.wanted (drop l.depth l.list)) ≡ id_entry_walk l.wanted l.list
