use Rattle.std.proofs.Common.{drop, sym, ◌∙◌, arith}
use Rattle.hp_control.proofs.OpenLemmas.{none_above, open_further}
use Rattle.hp_control.proofs.open_elements.OpenElements.is_open.Goals as goal

pub returns-then-highest_from-id : goal.returns-then-highest_from-id
returns-then-highest_from-id c =
    sym (none_above c.args.id (drop c.loop-depth.depth c.args.self.now) (omega (arith, c.if-highest_from-id.true, c.highest_from.ensures))) ∙ c.loop-depth.invariant

pub loop-depth-preserved : goal.loop-depth-preserved
loop-depth-preserved c =
    open_further c.args.id c.loop-depth.depth c.args.self.now c.at.result.now (omega (arith, c.loop-depth-test.true, c.len-depth-end.ensures)) c.at.ensures c.if-at-id.false ∙ c.loop-depth.invariant
