use Rattle.std.proofs.Common.{◌≡◌, ◌++◌}
use Rattle.hp_print.specs.Shown.{attributes_of}
use Rattle.hp_print.proofs.attributes.texts_of.Given as goal

-- the texts so far, and the attributes that are left
abbrev pub invariant-loop-attribute : goal.invariant-loop-attribute
invariant-loop-attribute l = attributes_of l.shown.items ++ l.attribute-iterator ≡ l.attributes
