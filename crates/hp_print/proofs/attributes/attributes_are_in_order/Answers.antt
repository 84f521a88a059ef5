use Rattle.std.specs.Cmp.{IsStrictWeakOrder}
use Rattle.std.proofs.lemmas.Cmp.{nat_list_cmp_total}
use Rattle.std.proofs.lemmas.List.Sorted.{ranks_by}
use Rattle.hp_elements.specs.declared.tag.Attribute.{Attribute}
use Rattle.hp_print.specs.Order.{comes_before, printed_name, units}
use Rattle.hp_print.proofs.Stable.{sorted_placed, stable_placed}
use Rattle.hp_print.proofs.attributes.attributes_are_in_order.Goals as goal

pub returns : goal.returns
returns c =
    let order : IsStrictWeakOrder comes_before = ranks_by nat_list_cmp_total (λ (a : Attribute). units (printed_name a)) in
    λ attributes. record { sorted = sorted_placed comes_before order attributes; stable = stable_placed comes_before order attributes }
