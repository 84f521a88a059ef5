use Rattle.hp_acts.proofs.KnownMatches.{known_handled}
use Rattle.hp_acts.proofs.laws.known_handled.Goals as goal

pub returns : goal.returns
returns c = known_handled
