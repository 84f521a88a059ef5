use Rattle.std.proofs.Common.{◌≡◌, ◌++◌, map, length}
use Rattle.hp_control.specs.Foreign.{attribute_in}
use Rattle.hp_foreign.proofs.attributes.changed_in.Given as goal

abbrev pub invariant-loop-attribute : goal.invariant-loop-attribute
invariant-loop-attribute l = map (attribute_in l.namespace) l.initial.attributes ≡ l.made ++ map (attribute_in l.namespace) l.attributes

abbrev pub decreases-loop-attribute : goal.decreases-loop-attribute
decreases-loop-attribute l = length l.attributes
