use Rattle.hp_model.proofs.RunGrowth.{built_grows}
use Rattle.hp_model.proofs.growth.Goals as goal

pub returns : goal.returns
returns c = built_grows
