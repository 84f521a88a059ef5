use Rattle.hp_views.specs.ResetLaws.{reset_faithful}
use Rattle.hp_views.proofs.laws.reset_means.Goals as goal

pub returns : goal.returns
returns c = reset_faithful
