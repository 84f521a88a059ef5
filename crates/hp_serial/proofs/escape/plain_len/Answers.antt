use Rattle.std.proofs.Common.{arith}
use Rattle.hp_serial.proofs.Escapes.{plain_next}
use Rattle.hp_serial.proofs.escape.plain_len.Goals as goal

pub loop-len-preserved : goal.loop-len-preserved
loop-len-preserved c = record {
  within = omega (arith, c.loop-len-test.true);
  plain = plain_next c.args.place c.args.bytes.now c.loop-len.len c.loop-len-test.true c.loop-len.invariant.plain (c.is_plain.ensures c.if-is_plain.true);
}
