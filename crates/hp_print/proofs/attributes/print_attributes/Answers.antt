use Rattle.std.proofs.Common.{rules, ◌≡◌, ◌<◌, length, sym, ap, arith}
use Rattle.hp_print.specs.Order.{in_order}
use Rattle.hp_print.specs.Print.{attribute_lines}
use Rattle.hp_print.proofs.Pieces.{prints_as}
use Rattle.hp_print.proofs.Sorting.{few_in_order}
use Rattle.hp_print.proofs.attributes.print_attributes.Goals as goal
use Rattle.hp_print.proofs.attributes.print_attributes.Goals.{then-len-lt2-via-then-len-lt2, then-len-lt2-via-else-len-lt2+then-is_in_order}

pub returns-then-len-lt2-clause-printed : goal.returns-then-len-lt2-clause-printed
returns-then-len-lt2-clause-printed g c =
    elim c.then-len-lt2.branch [
      | then-len-lt2-via-then-len-lt2 w ↦
          let few : length c.args.attributes.now < 2 = omega (arith, c.len.ensures.value, w.if-len-lt2.true) in
          prints_as _ _ _ _ _ _ c.print_unsorted.ensures (ap (attribute_lines c.args.depth) (few_in_order c.args.attributes.now few))
      | then-len-lt2-via-else-len-lt2+then-is_in_order w ↦
          let as_they_stand : c.args.attributes.now ≡ in_order c.args.attributes.now = sym (w.is_in_order.ensures (search rules)) in
          prints_as _ _ _ _ _ _ c.print_unsorted.ensures (ap (attribute_lines c.args.depth) as_they_stand)
    ]
