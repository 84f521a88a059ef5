use Rattle.hp_control.proofs.OlderLemmas.{valid_older}
use Rattle.hp_control.proofs.laws.valid_states_are_older.Goals as goal

pub returns : goal.returns
returns c = valid_older
