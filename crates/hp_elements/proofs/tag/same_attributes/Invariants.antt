use Rattle.std.proofs.Common.{◌≡◌}
use Rattle.hp_elements.proofs.tag.same_attributes.Given as goal

abbrev pub invariant-loop-attribute : goal.invariant-loop-attribute
invariant-loop-attribute l = (l.attribute-iterator ≡ l.others → l.fn.some ≡ l.fn.others) × (l.fn.some ≡ l.fn.others → l.attribute-iterator ≡ l.others)
