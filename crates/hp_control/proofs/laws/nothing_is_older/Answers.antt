use Rattle.hp_control.specs.Steps.{nothing_touched}
use Rattle.hp_control.proofs.laws.nothing_is_older.Goals as goal

pub returns : goal.returns
returns c = nothing_touched
