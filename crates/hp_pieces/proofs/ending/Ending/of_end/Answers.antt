use Rattle.std.proofs.Common.{refl}
use Rattle.hp_pieces.proofs.ending.Ending.of_end.Goals as goal

pub invariant_of-result : goal.invariant_of-result
invariant_of-result c = c.requires.end

pub returns : goal.returns
returns c = refl
