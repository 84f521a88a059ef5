-- An end tag by which the current node ends, and nothing else.
use Rattle.std.specs.Prelude.{◌≡◌, ◌⊎◌, ℕ, Bool, true, false, not, ◌&&◌, List, [], ◌∷◌, Some}
use Rattle.hp_elements.specs.Names.{known_of}
use Rattle.hp_elements.specs.declared.kinds.Kinds.TheVariants as kinds
use Rattle.hp_elements.specs.KnownNames as known
use Rattle.hp_elements.specs.declared.sets.SetName.{SetName}
use Rattle.hp_elements.specs.declared.sets.SetName.TheVariants as set
use Rattle.hp_control.specs.declared.element.OpenElement.{OpenElement}
use Rattle.hp_control.specs.KindTests.{within}

-- the current node is an own HTML element of the name, and stays where those of the set are popped
abbrev pub ends_top : SetName → List ℕ → List OpenElement → Bool
ends_top passed name [] = false
ends_top passed name (e ∷ es) = within (kinds.Html name) e && not (within (kinds.Set passed) e)

-- it is a term, or its description
abbrev pub EndsDescription : List ℕ → List OpenElement → Type 0
EndsDescription name es = ((known_of name ≡ Some known.Dt) × (ends_top set.ImpliedButDt name es ≡ true)) ⊎ ((known_of name ≡ Some known.Dd) × (ends_top set.ImpliedButDd name es ≡ true))
