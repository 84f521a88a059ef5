use Rattle.hp_groves.proofs.Splitting.{counts-on, stays-there}
use Rattle.hp_groves.proofs.trees_grow.Goals as goal

pub returns : goal.returns
returns c = record { there = stays-there; count = counts-on }
