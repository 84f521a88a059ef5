use Rattle.hp_acts.proofs.OlderMatches.{older_handled}
use Rattle.hp_acts.proofs.laws.older_handled.Goals as goal

pub returns : goal.returns
returns c = older_handled
