use Rattle.hp_model.proofs.Running.{one_run, one_tree, runs-join, runs-valid}
use Rattle.hp_model.proofs.runs.Goals as goal

pub returns : goal.returns
returns c = record { join = runs-join; one = one_run; tree = one_tree; valid = runs-valid }
