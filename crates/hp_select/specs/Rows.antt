-- How far each chain has come above the elements in a list, a row with an entry for each step.
use Rattle.std.specs.Prelude.{◌&&◌, ◌||◌, Bool, true, false, List, [], ◌∷◌, if◌then◌else◌}
use Rattle.hp_elements.specs.declared.tag.Tag.{Tag}
use Rattle.hp_select.specs.declared.rows.Reach.{Reach}
use Rattle.hp_select.specs.declared.rows.Reach.TheVariants.{Nowhere, Above, Here}
use Rattle.hp_select.specs.declared.selector.Combinator.{Combinator}
use Rattle.hp_select.specs.declared.selector.Combinator.TheVariants.{Begin, Descendant, Child}
use Rattle.hp_select.specs.declared.selector.Step.{Step}
use Rattle.hp_select.specs.Matching.{any_from, ends_at, is_compound, is_end}

abbrev pub is_here : Reach → Bool
is_here Nowhere = false
is_here Above = false
is_here Here = true

abbrev pub is_reached : Reach → Bool
is_reached Nowhere = false
is_reached Above = true
is_reached Here = true

-- the compound before has come as far as a combinator asks
abbrev pub is_open : Combinator → Reach → Bool
is_open Begin reach = true
is_open Child reach = is_here reach
is_open Descendant reach = is_reached reach

-- a step's entry below an element, which the chain up to it matches or not
abbrev pub reach_below : Bool → Reach → Reach
reach_below here reach = if here then Here else if is_reached reach then Above else Nowhere

-- the row below an element with this tag, where the step before has the entry `before`
abbrev pub row_behind : Tag → Reach → List Step → List Reach → List Reach
row_behind tag before [] row = []
row_behind tag before (step ∷ steps) [] = []
row_behind tag before (step ∷ steps) (reach ∷ row) =
    reach_below (is_compound tag step.compound && is_open step.combinator before) reach ∷ row_behind tag reach steps row

abbrev pub row_below : Tag → List Step → List Reach → List Reach
row_below tag steps row = row_behind tag Nowhere steps row

-- a chain ends at the element whose row this is
abbrev pub is_selected : List Step → List Reach → Bool
is_selected [] row = false
is_selected (step ∷ steps) [] = false
is_selected (step ∷ steps) (reach ∷ row) = (is_end steps && is_here reach) || is_selected steps row

-- the row where there are no ancestors
abbrev pub no_row : List Step → List Reach
no_row [] = []
no_row (step ∷ steps) = Nowhere ∷ no_row steps

-- what a row says of a path: an entry for each of these steps, where those before them come last first
abbrev pub reach_of : List Step → List Tag → Reach
reach_of chain [] = Nowhere
reach_of chain (tag ∷ above) = if ends_at chain (tag ∷ above) then Here else if any_from (ends_at chain) above then Above else Nowhere

abbrev pub row_of : List Step → List Step → List Tag → List Reach
row_of before [] path = []
row_of before (step ∷ steps) path = reach_of (step ∷ before) path ∷ row_of (step ∷ before) steps path
