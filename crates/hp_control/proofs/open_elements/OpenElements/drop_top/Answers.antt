use Rattle.std.proofs.Common.{length, ap, arith}
use Rattle.hp_control.proofs.SummaryLemmas.{summaries_dropped}
use Rattle.hp_control.proofs.StandingLemmas.{elements_count, shown_below, told_below}
use Rattle.hp_control.proofs.open_elements.OpenElements.drop_top.Goals as goal

pub drop_top-requires : goal.drop_top-requires
drop_top-requires c =
    let e = elements_count c.self.inside.standing in
    let f = ap length c.self.view_is in
    omega (arith, c.requires)

pub invariant_of-self : goal.invariant_of-self
invariant_of-self c = told_below c.self.inside.standing c.drop_top.new.self c.args.count (summaries_dropped c.args.count c.self.invariant) c.drop_top.ensures

pub returns : goal.returns
returns c = shown_below c.self.inside.standing c.drop_top.new.self c.args.self.now c.args.count c.self.view_is c.drop_top.ensures
