use Rattle.hp_adoption.specs.ReconLaws.{reconstruct_faithful}
use Rattle.hp_adoption.proofs.laws.reconstruct_means.Goals as goal

pub returns : goal.returns
returns c = reconstruct_faithful
