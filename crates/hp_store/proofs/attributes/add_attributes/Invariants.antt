use Rattle.std.proofs.Common.{◌≡◌, ◌+◌, ◌≤◌, length}
use Rattle.hp_control.specs.Tree.{with_missing}
use Rattle.hp_store.proofs.attributes.add_attributes.Given as goal

abbrev pub invariant-loop-attributes : goal.invariant-loop-attributes
invariant-loop-attributes l = record {
  same : with_missing l.attributes l.rest ≡ with_missing l.initial.attributes l.initial.rest;
  count : length l.attributes + length l.rest ≤ length l.initial.attributes + length l.initial.rest;
}

abbrev pub decreases-loop-attributes : goal.decreases-loop-attributes
decreases-loop-attributes l = length l.rest
