-- How the texts and the values of attributes are escaped (13.3).
use Rattle.std.specs.Prelude.{ℕ, ◌==◌, List, [], ◌∷◌, codes, if◌then◌else◌}
use Rattle.std.specs.List.{flat_map}
use Rattle.hp_serial.specs.declared.escape.Place.{Place}
use Rattle.hp_serial.specs.declared.escape.Place.TheVariants.{Text, Value}

-- a code point of a text
abbrev pub text_escape : ℕ → List ℕ
text_escape c =
    if c == 0x26 then codes "&amp;"
    else if c == 0xA0 then codes "&nbsp;"
    else if c == 0x3C then codes "&lt;"
    else if c == 0x3E then codes "&gt;"
    else c ∷ []

-- a code point of a value
abbrev pub value_escape : ℕ → List ℕ
value_escape c =
    if c == 0x26 then codes "&amp;"
    else if c == 0xA0 then codes "&nbsp;"
    else if c == 0x22 then codes "&quot;"
    else c ∷ []

abbrev pub escape : Place → ℕ → List ℕ
escape Text c = text_escape c
escape Value c = value_escape c

-- a text or a value, as it stands in the HTML text
abbrev pub escaped : Place → List ℕ → List ℕ
escaped place text = flat_map (escape place) text
