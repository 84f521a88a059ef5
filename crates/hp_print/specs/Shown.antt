-- Attributes by their texts.
use Rattle.std.specs.Prelude.{List, map, Bool, true, not, Option, None, Some}
use Rattle.std.specs.Str.{chars}
use Rattle.hp_elements.specs.declared.tag.Attribute.{Attribute}
use Rattle.hp_print.specs.Order.{comes_before}
use Rattle.hp_print.specs.declared.attributes.Shown.{Shown}

-- the attribute of these texts
abbrev pub attribute_of : Shown → Attribute
attribute_of shown = record { space = shown.space; name = chars shown.name.now; value = chars shown.value.now }

-- the second doesn't come before the first, if any
abbrev pub follows : Option Shown → Shown → Bool
follows None shown = true
follows (Some first) shown = not (comes_before (attribute_of shown) (attribute_of first))

abbrev pub attributes_of : List Shown → List Attribute
attributes_of shown = map attribute_of shown
