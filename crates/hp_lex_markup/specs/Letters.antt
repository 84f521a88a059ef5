-- The code points that the rows of markup declarations name.
use Rattle.std.specs.Prelude.{ℕ, List, [], ◌∷◌}

abbrev pub exclamation : ℕ
exclamation = 0x21

abbrev pub quotation_mark : ℕ
quotation_mark = 0x22

abbrev pub apostrophe : ℕ
apostrophe = 0x27

abbrev pub hyphen : ℕ
hyphen = 0x2D

abbrev pub less_than : ℕ
less_than = 0x3C

abbrev pub greater_than : ℕ
greater_than = 0x3E

abbrev pub right_bracket : ℕ
right_bracket = 0x5D

abbrev pub two_hyphens : List ℕ
two_hyphens = hyphen ∷ hyphen ∷ []

abbrev pub hyphens_and_exclamation : List ℕ
hyphens_and_exclamation = hyphen ∷ hyphen ∷ exclamation ∷ []
