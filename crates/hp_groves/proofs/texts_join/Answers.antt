use Rattle.hp_groves.proofs.Joined.{joined-count_same, joined-groves_same, joined-make_same, joined-name_same, joined-outers_join, joined-own_grove_same, joined-own_outer_join, named-join, one_by_one-join}
use Rattle.hp_groves.proofs.texts_join.Goals as goal

pub returns : goal.returns
returns c = record {
  same = joined-make_same;
  names = joined-name_same;
  count = joined-count_same;
  grove = joined-groves_same;
  outer = joined-outers_join;
  own_grove = joined-own_grove_same;
  own_outer = joined-own_outer_join;
  named = named-join;
  one_by_one = one_by_one-join;
}
