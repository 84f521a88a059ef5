use Rattle.hp_views.specs.BeginLaws.{begins_same, starts_over}
use Rattle.hp_views.proofs.laws.begins_mean.Goals as goal

pub returns : goal.returns
returns c = record { same = begins_same; over = starts_over }
