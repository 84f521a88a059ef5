use Rattle.std.proofs.Common.{refl}
use Rattle.hp_pieces.proofs.exact.Exact.of_parts.Goals as goal

pub invariant_of-result : goal.invariant_of-result
invariant_of-result c = c.requires.run

pub returns : goal.returns
returns c = refl
