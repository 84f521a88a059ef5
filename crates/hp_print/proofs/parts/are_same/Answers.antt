use Rattle.std.proofs.Common.{◌≡◌, length, arith}
use Rattle.hp_print.proofs.GoingOn.{same-marks}
use Rattle.hp_print.proofs.parts.are_same.Goals as goal

pub returns : goal.returns
returns c one =
    let as_long : length c.args.first.now ≡ length c.args.second.now = omega (arith, c.if-first-second.false) in
    same-marks c.args.first.now c.args.second.now as_long (λ i d below. c.loop-k.invariant i d (omega (arith, c.loop-k-test.false, c.loop-k.auto.k-end)))
