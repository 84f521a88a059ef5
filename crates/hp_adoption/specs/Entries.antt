-- Own elements and entries.
use Rattle.std.specs.Prelude.{ℕ, ◌==◌, Bool, true, false, if◌then◌else◌, List, [], ◌∷◌, Option, Some, None}
use Rattle.hp_elements.specs.declared.sets.Namespace.TheVariants.{Html}
use Rattle.hp_elements.specs.declared.tag.Tag.{Tag}
use Rattle.hp_control.specs.declared.edit.Ref.{Ref}
use Rattle.hp_control.specs.declared.edit.Ref.TheVariants.{Fixed, Own}
use Rattle.hp_control.specs.declared.element.FormattingEntry.{FormattingEntry}
use Rattle.hp_control.specs.declared.element.FormattingEntry.TheVariants.{Marker, Element}

-- an own element; without an older state its id is that of the page
abbrev pub ref_of : Bool → ℕ → Ref
ref_of true id = Fixed id
ref_of false id = Own id

-- the tag of the entry of this id
abbrev pub tag_of : ℕ → List FormattingEntry → Option Tag
tag_of id [] = None
tag_of id (Marker ∷ es) = tag_of id es
tag_of id (Element other tag ∷ es) = if other == id then Some tag else tag_of id es

abbrev pub is_element : Option FormattingEntry → Bool
is_element (Some (Element id tag)) = true
is_element _ = false

-- the tag of an entry that is an element's
abbrev pub tag_in : Option FormattingEntry → Tag
tag_in (Some (Element id tag)) = tag
tag_in _ = record { namespace = Html; name = []; attributes = [] }
