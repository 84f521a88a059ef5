-- Where walks down a stack end, and that from each of its elements which looks for a p element in button scope (13.2.4.2).
use Rattle.std.specs.Prelude.{if◌then◌else◌, List, [], ◌∷◌}
use Rattle.hp_elements.specs.Names.{text_of}
use Rattle.hp_elements.specs.declared.kinds.Kinds.{Kinds}
use Rattle.hp_elements.specs.declared.kinds.Kinds.TheVariants as kinds
use Rattle.hp_elements.specs.KnownNames as known
use Rattle.hp_elements.specs.declared.sets.SetName.TheVariants as sets
use Rattle.hp_control.specs.declared.element.OpenElement.{OpenElement}
use Rattle.hp_control.specs.declared.open_elements.WalkEnd.{WalkEnd}
use Rattle.hp_control.specs.declared.open_elements.WalkEnd.TheVariants.{Goal, Stop, BelowAll}
use Rattle.hp_control.specs.KindTests.{within}

abbrev pub end_from : Kinds → Kinds → OpenElement → WalkEnd → WalkEnd
end_from goals stops e below = if within goals e then Goal else (if within stops e then Stop else below)

-- the walk to the first element that is a goal or a stop
abbrev pub end_of : Kinds → Kinds → List OpenElement → WalkEnd
end_of goals stops [] = BelowAll
end_of goals stops (e ∷ es) = end_from goals stops e (end_of goals stops es)

-- the walk to a p element in button scope
unfoldable pub paragraph_from : OpenElement → WalkEnd → WalkEnd
paragraph_from e below = end_from (kinds.Html (text_of known.P)) (kinds.Set sets.ButtonScopeEnds) e below

unfoldable pub paragraph_end : List OpenElement → WalkEnd
paragraph_end es = end_of (kinds.Html (text_of known.P)) (kinds.Set sets.ButtonScopeEnds) es
