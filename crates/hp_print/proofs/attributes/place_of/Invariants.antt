use Rattle.std.proofs.Common.{◌≡◌, ◌≤◌, ◌-◌, ◌++◌, length, take, drop}
use Rattle.hp_print.specs.Order.{comes_before, placed}
use Rattle.hp_print.specs.Shown.{attribute_of, attributes_of}
use Rattle.hp_print.proofs.attributes.place_of.Given as goal

-- it comes before none of those that were looked at
abbrev pub invariant-loop-at : goal.invariant-loop-at
invariant-loop-at l = record {
  within : l.at ≤ length l.sorted;
  passed : placed comes_before (attributes_of l.sorted) (attribute_of l.shown) ≡ attributes_of (take l.at l.sorted) ++ placed comes_before (attributes_of (drop l.at l.sorted)) (attribute_of l.shown);
}

abbrev pub decreases-loop-at : goal.decreases-loop-at
decreases-loop-at l = length l.sorted - l.at
