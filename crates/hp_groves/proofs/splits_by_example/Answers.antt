use Rattle.std.proofs.Common.{refl}
use Rattle.hp_groves.proofs.splits_by_example.Goals as goal

pub returns : goal.returns
returns c = record {
  items_outer = refl;
  items_grove = refl;
  items_made = refl;
  adopted_outer = refl;
  adopted_grove = refl;
  fostered_outer = refl;
  fostered_grove = refl;
  before_older = refl;
  moved_on_outer = refl;
  moved_on_grove = refl;
  fragment_outer = refl;
  fragment_grove = refl;
}
