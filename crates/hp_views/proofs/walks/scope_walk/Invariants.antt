use Rattle.std.proofs.Common.{◌≡◌, drop}
use Rattle.hp_views.specs.Walks.{id_scope_walk, deeper}
use Rattle.hp_views.proofs.walks.scope_walk.Given as goal

abbrev pub invariant-loop-depth : goal.invariant-loop-depth
invariant-loop-depth l = deeper l.depth (id_scope_walk l.id (drop l.depth l.stack)) ≡ id_scope_walk l.id l.stack
