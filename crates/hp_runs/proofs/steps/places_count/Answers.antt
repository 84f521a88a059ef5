use Rattle.hp_runs.proofs.Shifting.{end_move-same, move-same}
use Rattle.hp_runs.proofs.steps.places_count.Goals as goal

pub returns : goal.returns
returns c = record { moves = move-same; ends = end_move-same }
