use Rattle.hp_views.specs.WholeLaws.{whole_means}
use Rattle.hp_views.proofs.laws.whole_means.Goals as goal

pub returns : goal.returns
returns c = whole_means
