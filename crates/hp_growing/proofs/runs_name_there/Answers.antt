use Rattle.hp_growing.proofs.Places.{runs-split}
use Rattle.hp_growing.proofs.Runs.{ends-name_there, runs-name_there}
use Rattle.hp_growing.proofs.runs_name_there.Goals as goal

pub returns : goal.returns
returns c = record { runs = runs-name_there; ends = ends-name_there; split = runs-split }
