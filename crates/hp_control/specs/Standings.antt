-- What a stack of open elements keeps: its elements, and with each of them what is known of it and all below it.
use Rattle.std.specs.Prelude.{◌≡◌, ℕ, max, List, [], ◌∷◌}
use Rattle.hp_control.specs.declared.element.OpenElement.{OpenElement}
use Rattle.hp_control.specs.declared.open_elements.Standing.{Standing}
use Rattle.hp_control.specs.declared.open_elements.Summary.{Summary}
use Rattle.hp_control.specs.declared.open_elements.WalkEnd.TheVariants.{BelowAll}
use Rattle.hp_control.specs.Ends.{paragraph_from, paragraph_end}

-- the highest id, 0 where there is no element
abbrev pub highest_id : List OpenElement → ℕ
highest_id [] = 0
highest_id (e ∷ es) = max e.id (highest_id es)

abbrev pub summary_of : List OpenElement → Summary
summary_of es = record { end = paragraph_end es; highest = highest_id es }

-- that of one more element, by that of the elements below it
abbrev pub summary_from : OpenElement → Summary → Summary
summary_from e below = record { end = paragraph_from e below.end; highest = max e.id below.highest }

-- that at each element
abbrev pub summaries : List OpenElement → List Summary
summaries [] = []
summaries (e ∷ es) = summary_of (e ∷ es) ∷ summaries es

pub record AreSummaries (elements : List OpenElement) (told : List Summary) : Type 0 where
  pub same : told ≡ summaries elements

-- the topmost; where there is none, that of no elements
abbrev pub first_summary : List Summary → Summary
first_summary [] = record { end = BelowAll; highest = 0 }
first_summary (s ∷ ss) = s

abbrev pub elements_of : List Standing → List OpenElement
elements_of [] = []
elements_of (s ∷ ss) = s.element ∷ elements_of ss

abbrev pub summaries_of : List Standing → List Summary
summaries_of [] = []
summaries_of (s ∷ ss) = s.summary ∷ summaries_of ss
