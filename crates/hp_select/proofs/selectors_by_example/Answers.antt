use Rattle.std.proofs.Common.{refl}
use Rattle.hp_select.specs.Grammar.{simples_at, steps_at}
use Rattle.hp_select.specs.Selected.{elements_in}
use Rattle.hp_select.proofs.selectors_by_example.Goals as goal

pub returns : goal.returns
unfolding simples_at steps_at elements_in
returns c = record {
  parts = refl;
  two_chains = refl;
  no_end = refl;
  nothing = refl;
  space_in_front = refl;
  space_in_brackets = refl;
  children = refl;
  each_once = refl;
  inside_body = refl;
  no_grandchild = refl;
  all_of_a_class = refl;
  in_contents = refl;
  no_ancestors_outside = refl;
}
