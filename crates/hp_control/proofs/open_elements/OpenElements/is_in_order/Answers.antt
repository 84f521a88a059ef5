use Rattle.std.proofs.Common.{◌-◌, arith}
use Rattle.hp_control.proofs.OpenLemmas.{open_somewhere}
use Rattle.hp_control.proofs.open_elements.OpenElements.is_in_order.Goals as goal

pub returns-then-from-gt0 : goal.returns-then-from-gt0
returns-then-from-gt0 c is =
    open_somewhere c.args.id (c.loop-from.from - 1) c.args.self.now c.at.result.now (omega (arith, c.if-from-gt0.true, c.loop-from.invariant.0, c.loop-from.invariant.1)) c.at.ensures is
