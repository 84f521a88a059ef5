use Rattle.std.proofs.Common.{refl}
use Rattle.hp_acts.proofs.turns.most_turns.Goals as goal

pub returns : goal.returns
returns c = refl
