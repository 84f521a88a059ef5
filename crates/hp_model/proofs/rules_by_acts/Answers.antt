use Rattle.hp_model.proofs.RowLemmas.{foreign_by_acts, mode_by_acts}
use Rattle.hp_model.proofs.rules_by_acts.Goals as goal

pub returns : goal.returns
returns c = record { mode = mode_by_acts; foreign = foreign_by_acts }
