use Rattle.hp_views.specs.PopLaws.{pop_faithful, pop_run_faithful, pop_to_faithful, through_faithful, pop_to_first_faithful}
use Rattle.hp_views.proofs.laws.pops_mean.Goals as goal

pub returns : goal.returns
returns c = record { pop = pop_faithful; pop_run = pop_run_faithful; pop_to = pop_to_faithful; through = through_faithful; pop_to_first = pop_to_first_faithful }
