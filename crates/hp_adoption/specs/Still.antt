-- A list of active formatting elements after whose last entry nothing is to be made anew.
use Rattle.std.specs.Prelude.{ℕ, ◌==◌, Bool, true, false, List, [], ◌∷◌}
use Rattle.hp_control.specs.declared.element.OpenElement.{OpenElement}
use Rattle.hp_control.specs.declared.element.FormattingEntry.{FormattingEntry}
use Rattle.hp_control.specs.declared.element.FormattingEntry.TheVariants.{Marker, Element}

-- the current node is the own element of this id
abbrev pub is_top : ℕ → List OpenElement → Bool
is_top id [] = false
is_top id (e ∷ es) = e.id == id

-- a marker, or the current node's
abbrev pub is_still_at : List OpenElement → FormattingEntry → Bool
is_still_at stack Marker = true
is_still_at stack (Element id tag) = is_top id stack

abbrev pub is_still : List OpenElement → List FormattingEntry → Bool
is_still stack [] = false
is_still stack (f ∷ fs) = is_still_at stack f
