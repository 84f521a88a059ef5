use Rattle.hp_growing.proofs.Handled.{at_once-names_there, handled-names_there}
use Rattle.hp_growing.proofs.Runs.{tokens-name_there}
use Rattle.hp_growing.proofs.tokens_name_there.Goals as goal

pub returns : goal.returns
returns c = record { token = handled-names_there; at_once = at_once-names_there; in_order = tokens-name_there }
