use Rattle.std.proofs.Common.{◌≡◌, ◌-◌, ◌<◌, length}
use Rattle.hp_arena.specs.Nodes.{end_from}
use Rattle.hp_arena.proofs.arena.end_after.Given as goal

abbrev pub invariant-loop : goal.invariant-loop
invariant-loop l = record { at_in : l.at < length l.store.nodes; same : end_from l.store.nodes (length l.store.nodes - l.counter) l.at ≡ end_from l.store.nodes (length l.store.nodes) l.from }
