use Rattle.hp_acts.specs.ActLaws.{act_faithful}
use Rattle.hp_acts.proofs.laws.acts_mean.Goals as goal

pub returns : goal.returns
returns c = act_faithful
