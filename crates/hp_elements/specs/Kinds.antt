-- What is in a kind of elements.
use Rattle.std.specs.Prelude.{ℕ, List, Bool, true, false, not, ◌&&◌, ◌||◌}
use Rattle.std.specs.Str.{bytes_eq}
use Rattle.hp_elements.specs.declared.kinds.Kinds.{Kinds}
use Rattle.hp_elements.specs.declared.kinds.Kinds.TheVariants as kinds
use Rattle.hp_elements.specs.declared.kinds.Point.{Point}
use Rattle.hp_elements.specs.declared.kinds.Point.TheVariants as point
use Rattle.hp_elements.specs.declared.sets.Namespace.{Namespace}
use Rattle.hp_elements.specs.declared.sets.Namespace.TheVariants as namespace
use Rattle.hp_elements.specs.Names.{lowered}
use Rattle.hp_elements.specs.Sets.{in_set}

abbrev pub is_html : Namespace → Bool
is_html namespace.Html = true
is_html _ = false

abbrev pub is_point : Point → Bool
is_point point.No = false
is_point _ = true

-- whether the elements of that namespace and name, and of that integration point, are of the kind
abbrev pub is_of : Kinds → Namespace → List ℕ → Point → Bool
is_of kinds.Nothing space name at = false
is_of kinds.All space name at = true
is_of kinds.AnyHtml space name at = is_html space
is_of kinds.HtmlOrPoint space name at = is_html space || is_point at
is_of (kinds.Html own) space name at = is_html space && bytes_eq own name
is_of (kinds.Foreign own) space name at = not (is_html space) && bytes_eq (lowered own) (lowered name)
is_of (kinds.Set s) space name at = in_set s space name
