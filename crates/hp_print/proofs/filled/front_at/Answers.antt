use Rattle.std.proofs.Common.{arith, refl}
use Rattle.hp_print.proofs.Filling.{front_part}
use Rattle.hp_print.proofs.filled.front_at.Goals as goal

pub returns-clause-bytes : goal.returns-clause-bytes
returns-clause-bytes c = front_part _ _ c.args.at c.args.depth (omega arith) c.requires.low (rw c.put_at.ensures.end at c.put_at.ensures.bytes)

pub returns-clause-end : goal.returns-clause-end
returns-clause-end c = refl
