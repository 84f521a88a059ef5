use Rattle.std.proofs.Common.{◌∙◌, ap, sym}
use Rattle.hp_elements.specs.declared.sets.SetName.TheVariants as set
use Rattle.hp_views.specs.View.{sight}
use Rattle.hp_acts.proofs.TopEnds.{block_ended, top_there}
use Rattle.hp_acts.proofs.ends.close_block.Goals as goal

pub pop_own-requires : goal.pop_own-requires
pop_own-requires g c = top_there set.Implied c.args.name c.args.view.now.change.stack (sym c.ends_top.ensures ∙ c.if-ends_top.true)

pub returns-then-ends_top : goal.returns-then-ends_top
returns-then-ends_top g c =
    block_ended (sight g.B.Below.heard c.args.view.now) (sight g.B.Below.heard c.pop_own.new.self) c.args.name (sym c.ends_top.ensures ∙ c.if-ends_top.true) c.pop_own.ensures.split
    (ap g.B.Below.heard c.pop_own.ensures.below)
