-- The code points of a text.
use Rattle.std.specs.Prelude.{ℕ, List, length, take, ◌-◌, ◌≤◌, IsUtf8, string_bytes}
use Rattle.std.specs.Str.{chars}
use Rattle.hp_elements.specs.declared.text.Place.{Place}
use Rattle.hp_elements.specs.declared.text.Place.TheVariants.{Page, Here, Owned}

-- its bytes in UTF-8
abbrev pub placed_bytes : Place → List ℕ
placed_bytes (Page spare bytes) = take (length bytes.now - spare) bytes.now
placed_bytes (Here len bytes) = take len bytes
placed_bytes (Owned text) = string_bytes text

abbrev pub placed : Place → List ℕ
placed place = chars (placed_bytes place)

-- its bytes are there, and are UTF-8
abbrev pub IsPlaced : Place → Type 0
IsPlaced (Page spare bytes) = (spare ≤ length bytes.now) × IsUtf8 (take (length bytes.now - spare) bytes.now)
IsPlaced (Here len bytes) = (len ≤ 30) × IsUtf8 (take len bytes)
IsPlaced (Owned text) = Unit {0}
