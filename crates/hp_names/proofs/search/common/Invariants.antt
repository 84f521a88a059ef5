use Rattle.std.proofs.Common.{◌≡◌, ◌+◌, ◌-◌, ◌≤◌, length, drop}
use Rattle.hp_names.specs.Order as order
use Rattle.hp_names.proofs.search.common.Given as goal

abbrev pub invariant-loop-shared : goal.invariant-loop-shared
invariant-loop-shared l = record {
  in_name : l.shared ≤ length l.name;
  in_text : l.shared ≤ length l.text;
  so_far : l.shared + order.common (drop l.shared l.name) (drop l.shared l.text) ≡ order.common l.name l.text;
}

abbrev pub decreases-loop-shared : goal.decreases-loop-shared
decreases-loop-shared l = length l.name - l.shared
