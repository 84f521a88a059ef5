-- The rows are the list of the specification, and lawful: both are computed.
use Rattle.std.proofs.Common.{refl}
use Rattle.hp_names.specs.BuiltIn.{built_in}
use Rattle.hp_names.proofs.names.Names.built_in.Goals as goal

pub invariant_of-result : goal.invariant_of-result
invariant_of-result c = refl

pub returns : goal.returns
unfolding built_in
returns c = refl
