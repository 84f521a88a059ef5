-- A tag's name as it is kept, and its text.
use Rattle.std.specs.Prelude.{◌≡◌, ℕ, List, None}
use Rattle.std.specs.Str.{IsAscii}
use Rattle.hp_elements.specs.Names.{text_of, known_of, lowered}
use Rattle.hp_predict.specs.declared.name.Spelling.{Spelling}
use Rattle.hp_predict.specs.declared.name.Spelling.TheVariants.{Named, Other}

abbrev pub spelled : Spelling → List ℕ
spelled (Named known) = text_of known
spelled (Other text) = lowered text.now

-- the text of a known name is kept as that name, and another one is ASCII
abbrev pub IsSpelled : Spelling → Type 0
IsSpelled (Named known) = Unit {0}
IsSpelled (Other text) = (known_of (lowered text.now) ≡ None) × IsAscii text.now
