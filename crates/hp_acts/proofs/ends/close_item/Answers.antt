use Rattle.std.proofs.Common.{◌∙◌, ap, sym}
use Rattle.hp_elements.specs.Names.{text_of}
use Rattle.hp_elements.specs.KnownNames as known
use Rattle.hp_elements.specs.declared.sets.SetName.TheVariants as set
use Rattle.hp_views.specs.View.{sight}
use Rattle.hp_acts.proofs.TopEnds.{item_ended, top_there}
use Rattle.hp_acts.proofs.ends.close_item.Goals as goal

pub pop_own-requires : goal.pop_own-requires
pop_own-requires g c = top_there set.ImpliedButLi (text_of known.Li) c.args.view.now.change.stack (sym c.ends_known.ensures ∙ c.if-ends_known.true)

pub returns-then-ends_known : goal.returns-then-ends_known
returns-then-ends_known g c =
    item_ended (sight g.B.Below.heard c.args.view.now) (sight g.B.Below.heard c.pop_own.new.self) (sym c.ends_known.ensures ∙ c.if-ends_known.true) c.pop_own.ensures.split
    (ap g.B.Below.heard c.pop_own.ensures.below)
