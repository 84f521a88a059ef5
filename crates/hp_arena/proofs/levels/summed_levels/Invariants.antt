use Rattle.std.proofs.Common.{◌≡◌, ◌+◌, ◌-◌, ◌≤◌, length, max}
use Rattle.hp_arena.specs.Levels.{counted, deepest_from, summed_from}
use Rattle.hp_arena.proofs.levels.summed_levels.Given as goal

-- what is summed with what is to come is the whole, and so with the deepest
abbrev pub invariant-loop-turn : goal.invariant-loop-turn
invariant-loop-turn l = record {
  low : l.level ≤ l._turn;
  deep : l.level ≤ l.deepest;
  sum : counted (l.sum + summed_from l.store.nodes (length l.store.nodes - l._turn) l.at l.level) ≡ counted (summed_from l.store.nodes (length l.store.nodes) 1 0);
  deepest : max l.deepest (deepest_from l.store.nodes (length l.store.nodes - l._turn) l.at l.level) ≡ deepest_from l.store.nodes (length l.store.nodes) 1 0;
}
