use Rattle.std.proofs.Common.{arith, sym, ◌∙◌}
use Rattle.hp_control.specs.KindTests.{within}
use Rattle.hp_control.specs.Walks.{scope_ends}
use Rattle.hp_adoption.proofs.Nearest.{any_here, any_passes}
use Rattle.hp_adoption.proofs.turns.hides.Goals as goal

pub returns-then-is_within : goal.returns-then-is_within
returns-then-is_within c =
    any_here (within scope_ends) c.args.stack.now c.args.depth c.loop-above.above c.at.result.now (omega arith) c.requires c.at.ensures c.loop-above.invariant (sym c.is_within.ensures ∙ c.if-is_within.true)

pub loop-above-preserved : goal.loop-above-preserved
loop-above-preserved c =
    any_passes (within scope_ends) c.args.stack.now c.args.depth c.loop-above.above c.at.result.now (omega arith) c.requires c.at.ensures c.loop-above.invariant (sym c.is_within.ensures ∙ c.if-is_within.false)
