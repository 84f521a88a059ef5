use Rattle.std.proofs.Common.{ap}
use Rattle.hp_views.specs.View.{sight}
use Rattle.hp_acts.proofs.TopEnds.{description_ended, description_there}
use Rattle.hp_acts.proofs.ends.close_description.Goals as goal

pub pop_own-requires : goal.pop_own-requires
pop_own-requires g c = description_there c.args.name c.args.view.now.change.stack (c.ends_description.ensures c.if-ends_description.true)

pub returns-then-ends_description : goal.returns-then-ends_description
returns-then-ends_description g c =
    description_ended (sight g.B.Below.heard c.args.view.now) (sight g.B.Below.heard c.pop_own.new.self) c.args.name (c.ends_description.ensures c.if-ends_description.true) c.pop_own.ensures.split
    (ap g.B.Below.heard c.pop_own.ensures.below)
