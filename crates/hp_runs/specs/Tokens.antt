-- Tokens as the lexer reads them (13.2.5).
use Rattle.std.specs.Prelude.{List, [], ◌∷◌}
use Rattle.hp_elements.specs.declared.token.Token.{Token}
use Rattle.hp_model.specs.Growth.{IsInside}
use Rattle.hp_model.specs.Whole.{IsRead}

abbrev pub AllRead : List Token → Type 0
AllRead [] = Unit {0}
AllRead (t ∷ ts) = IsRead t × AllRead ts

-- none of these is the end of input
abbrev pub AllInside : List Token → Type 0
AllInside [] = Unit {0}
AllInside (t ∷ ts) = IsInside t × AllInside ts
