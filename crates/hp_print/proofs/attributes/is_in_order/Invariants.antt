use Rattle.std.proofs.Common.{◌≡◌, ◌++◌, true}
use Rattle.hp_print.specs.Order.{comes_before}
use Rattle.hp_print.proofs.Ordered.{ordered, last}
use Rattle.hp_print.proofs.attributes.is_in_order.Given as goal

-- where what is left stands in order behind the last attribute, all stand in order
abbrev pub invariant-loop-attribute : goal.invariant-loop-attribute
invariant-loop-attribute l = ordered comes_before (last l.before ++ l.attribute-iterator) ≡ true → ordered comes_before l.attributes ≡ true
