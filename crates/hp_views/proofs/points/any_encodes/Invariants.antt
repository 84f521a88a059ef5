use Rattle.std.proofs.Common.{◌≡◌}
use Rattle.std.specs.List.{list_any}
use Rattle.std.specs.Str.{chars}
use Rattle.hp_views.specs.Encodings.{encodes_as}
use Rattle.hp_views.proofs.points.any_encodes.Given as goal

abbrev pub invariant-loop-attribute : goal.invariant-loop-attribute
invariant-loop-attribute l = list_any (encodes_as (chars l.html) (chars l.xhtml)) l.attribute-iterator ≡ list_any (encodes_as (chars l.html) (chars l.xhtml)) l.attributes
