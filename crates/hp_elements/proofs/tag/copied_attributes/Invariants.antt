use Rattle.std.proofs.Common.{◌≡◌, ◌++◌}
use Rattle.hp_elements.proofs.tag.copied_attributes.Given as goal

abbrev pub invariant-loop-attribute : goal.invariant-loop-attribute
invariant-loop-attribute l = l.copy ++ l.attribute-iterator ≡ l.attributes
