use Rattle.std.proofs.Common.{◌≡◌}
use Rattle.hp_control.specs.Hashing.{mixed_attributes}
use Rattle.hp_control.proofs.hashing.mixed_attributes.Given as goal

abbrev pub invariant-loop-attribute : goal.invariant-loop-attribute
invariant-loop-attribute l = mixed_attributes l.mix l.attribute-iterator ≡ mixed_attributes l.hash l.attributes
