use Rattle.std.proofs.Common.{arith, drop}
use Rattle.hp_names.proofs.OrderLemmas.{common-past}
use Rattle.hp_names.proofs.search.common.Goals as goal

pub returns-else-shared-text-clause-exact : goal.returns-else-shared-text-clause-exact
returns-else-shared-text-clause-exact c =
    let rest = common-past (drop c.loop-shared.shared c.args.name.now) c.args.text.now c.loop-shared.shared c.if-shared-text.false in
    omega arith
