use Rattle.std.proofs.Common.{◌≡◌, ◌≤◌, ◌+◌, length, vec_len, vec_capacity}
use Rattle.std.specs.List.{fold}
use Rattle.hp_print.specs.Order.{comes_before, in_order, placed}
use Rattle.hp_print.specs.Shown.{attributes_of}
use Rattle.hp_print.proofs.attributes.place_all.Given as goal

-- where those that are left are put among those that were, all are in order, and there is room for them
abbrev pub invariant-loop-attribute : goal.invariant-loop-attribute
invariant-loop-attribute l = record {
  order : fold (placed comes_before) (attributes_of l.sorted.items) l.attribute-iterator ≡ in_order l.attributes;
  room : vec_len l.sorted + length l.attribute-iterator ≤ vec_capacity l.sorted;
  kept : vec_capacity l.initial.sorted ≤ vec_capacity l.sorted;
}
