use Rattle.std.proofs.Common.{refl, arith}
use Rattle.std.specs.Ordering.{nat_cmp, is_le}
use Rattle.std.proofs.lemmas.Cmp.{same_from_slice_cmp_tested}
use Rattle.std.proofs.lemmas.Bool.Decides.{nat_tests}
use Rattle.hp_names.specs.Order as order
use Rattle.hp_names.proofs.search.is_upto.Goals as goal

pub returns : goal.returns
returns c =
    let by = same_from_slice_cmp_tested nat_cmp is_le order.is_upto refl (λ _ _. refl) (λ _ _. refl) (λ x y xs ys o h. grind (arith, nat_tests)) in
    by c.args.name.now c.args.text.now c.le.result c.le.ensures
