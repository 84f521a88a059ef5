use Rattle.std.proofs.Common.{sym}
use Rattle.hp_store.proofs.Bare.{counted-none}
use Rattle.hp_store.proofs.node.own_number.Goals as goal

pub returns-clause-counted : goal.returns-clause-counted
returns-clause-counted c = sym (counted-none c.args.number c.ranges.number.fits)
