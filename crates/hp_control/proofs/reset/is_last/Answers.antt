use Rattle.std.proofs.Common.{sym, arith}
use Rattle.hp_control.proofs.WalkLemmas.{none_left, some_left}
use Rattle.hp_control.proofs.reset.is_last.Goals as goal

pub returns-then-depth-len : goal.returns-then-depth-len
returns-then-depth-len c = sym (some_left c.args.stack.now c.args.depth (omega arith))

pub returns-else-depth-len : goal.returns-else-depth-len
returns-else-depth-len c = sym (none_left c.args.stack.now c.args.depth (omega arith))
