use Rattle.hp_model.proofs.Finding.{acts_find}
use Rattle.hp_model.proofs.Handled.{handed_on, handle-valid, turns-end}
use Rattle.hp_model.proofs.handling.Goals as goal

pub returns : goal.returns
returns c = record { ends = turns-end; valid = handle-valid; handed_on = handed_on; found = acts_find }
