-- A name as it is kept, and its text.
use Rattle.std.specs.Prelude.{◌≡◌, ℕ, List, None, take, ◌≤◌, IsUtf8, string_bytes}
use Rattle.std.specs.Str.{chars}
use Rattle.hp_elements.specs.declared.name.Spelling.{Spelling}
use Rattle.hp_elements.specs.declared.name.Spelling.TheVariants.{Named, Short, Long}
use Rattle.hp_elements.specs.Names.{text_of, known_of}

abbrev pub spelled : Spelling → List ℕ
spelled (Named known) = text_of known
spelled (Short len bytes) = chars (take len bytes)
spelled (Long text) = chars (string_bytes text.value)

-- the bytes are there and are UTF-8, and the text of a known name is kept as that name
abbrev pub IsSpelled : Spelling → Type 0
IsSpelled (Named known) = Unit {0}
IsSpelled (Short len bytes) = (len ≤ 14) × IsUtf8 (take len bytes) × (known_of (chars (take len bytes)) ≡ None)
IsSpelled (Long text) = known_of (chars (string_bytes text.value)) ≡ None
