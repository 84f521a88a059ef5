-- The current node whose entry is the last one, as an end tag most often finds it.
use Rattle.std.specs.Prelude.{ℕ, ◌==◌, Bool, false, ◌&&◌, List, [], ◌∷◌, drop}
use Rattle.std.specs.Str.{bytes_eq}
use Rattle.hp_control.specs.declared.element.OpenElement.{OpenElement}
use Rattle.hp_control.specs.declared.element.FormattingEntry.{FormattingEntry}
use Rattle.hp_control.specs.declared.element.FormattingEntry.TheVariants.{Marker, Element}
use Rattle.hp_control.specs.Faithful.{Split}
use Rattle.hp_views.specs.FieldPlans.{with_change}
use Rattle.hp_views.specs.ListPlans.{with_entries}

-- the entry is that element's, and its tag has the name
abbrev pub is_own : List ℕ → OpenElement → FormattingEntry → Bool
is_own name e Marker = false
is_own name e (Element id tag) = id == e.id && bytes_eq name tag.name

abbrev pub is_last : List ℕ → List OpenElement → List FormattingEntry → Bool
is_last name [] fs = false
is_last name (e ∷ es) [] = false
is_last name (e ∷ es) (f ∷ fs) = is_own name e f

-- without the last entry
abbrev pub without_last : Split → Split
without_last v = with_change (with_entries (drop 1 v.change.formatting) v.change) v
