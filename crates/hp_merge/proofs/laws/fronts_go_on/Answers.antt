use Rattle.hp_merge.proofs.GoingOn.{goes_on, stands_behind}
use Rattle.hp_merge.proofs.laws.fronts_go_on.Goals as goal

pub returns : goal.returns
returns c = record {
  on = goes_on c.pages_at.ensures.covers c.pages_at.ensures.start c.pages_at.ensures.valid c.states_wait.ensures.runs c.trees_are_counted.ensures.places c.guesses_grow.ensures.builds c.guesses_grow.ensures.grown;
  behind = stands_behind;
}
