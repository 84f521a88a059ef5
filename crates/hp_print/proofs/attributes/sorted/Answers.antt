use Rattle.std.proofs.Common.{rules, ◌≡◌, [], ap, ◌∙◌, Bool}
use Rattle.std.specs.Cmp.{IsStrictWeakOrder}
use Rattle.std.specs.Ordering.{is_lt}
use Rattle.std.proofs.lemmas.Cmp.{nat_list_cmp_total}
use Rattle.std.proofs.lemmas.List.Sorted.{ranks_by, answers_always}
use Rattle.hp_print.specs.declared.attributes.Shown.{Shown}
use Rattle.hp_print.specs.Order.{comes_before, in_order, printed_name, units}
use Rattle.hp_print.specs.Shown.{attribute_of, attributes_of}
use Rattle.hp_print.proofs.Stable.{map-fold_placed, sort_places}
use Rattle.hp_print.proofs.attributes.sorted.Goals as goal

pub returns : goal.returns
returns c =
    let lt : Shown → Shown → Bool = λ x y. comes_before (attribute_of x) (attribute_of y) in
    let order : IsStrictWeakOrder lt = ranks_by nat_list_cmp_total (λ (x : Shown). units (printed_name (attribute_of x))) in
    let answers = answers_always _ (λ a r. is_lt r ≡ lt a.0.now a.1.0.now) _ (λ f a r f' k. search rules) in
    let sorted = c.in_ok-sort_by.ensures.sorted lt order answers in
    let stable = c.in_ok-sort_by.ensures.stable lt order answers in
    ap attributes_of (sort_places lt order c.in_ok-sorted.sorted.items c.sort_by.new.self.items sorted stable)
    ∙ (map-fold_placed attribute_of comes_before c.in_ok-sorted.sorted.items [] ∙ ap in_order c.in_ok-sorted.ensures)
