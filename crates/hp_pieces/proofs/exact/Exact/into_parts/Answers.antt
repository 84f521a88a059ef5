use Rattle.std.proofs.Common.{subst}
use Rattle.hp_pieces.specs.Fragments.{IsRun}
use Rattle.hp_pieces.proofs.exact.Exact.into_parts.Goals as goal

pub returns-clause-parts : goal.returns-clause-parts
returns-clause-parts c = c.self.view_is

pub returns-clause-run : goal.returns-clause-run
returns-clause-run c = subst IsRun c.self.view_is c.self.invariant
