use Rattle.std.proofs.Common.{ap, refl}
use Rattle.std.specs.Prelude.{Ok}
use Rattle.hp_control.proofs.NothingLemmas.{nothing_same}
use Rattle.hp_control.proofs.below.NothingBelow.ask_same.Goals as goal

pub returns-clause-asked : goal.returns-clause-asked
returns-clause-asked c = record { ends = ap Ok (nothing_same c.args._cuts c.args._tag.now); noted = refl }
