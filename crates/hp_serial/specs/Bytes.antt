-- How the bytes of a text are escaped, in UTF-8, and what was written behind other bytes.
use Rattle.std.specs.Prelude.{◌≡◌, ℕ, ◌==◌, ◌&&◌, List, [], ◌∷◌, ◌++◌, Bool, false, codes, nat_lt, if◌then◌else◌}
use Rattle.hp_serial.specs.declared.escape.Place.{Place}
use Rattle.hp_serial.specs.Escaping.{escape}

-- a byte, where it isn't one of two that are U+00A0
abbrev pub byte_escape : Place → ℕ → List ℕ
byte_escape place b = if nat_lt b 0x80 then escape place b else b ∷ []

-- the two bytes of U+00A0
abbrev pub is_no_break_space : ℕ → ℕ → Bool
is_no_break_space first second = first == 0xC2 && second == 0xA0

abbrev pub begins_with_no_break_space : List ℕ → Bool
begins_with_no_break_space [] = false
begins_with_no_break_space (b ∷ []) = false
begins_with_no_break_space (b ∷ c ∷ bytes) = is_no_break_space b c

unfoldable pub escaped_bytes : Place → List ℕ → List ℕ
escaped_bytes place [] = []
escaped_bytes place (b ∷ []) = byte_escape place b
escaped_bytes place (b ∷ c ∷ bytes) =
    if is_no_break_space b c then codes "&nbsp;" ++ escaped_bytes place bytes else byte_escape place b ++ escaped_bytes place (c ∷ bytes)

-- the byte stands as it is, whatever comes behind it
pub record IsPlain (place : Place) (b : ℕ) : Type 0 where
  pub alone : byte_escape place b ≡ b ∷ []
  pub first : b == 0xC2 ≡ false

-- these bytes stand as they are, whatever comes behind them
abbrev pub ArePlain : Place → List ℕ → Type 0
ArePlain place bytes = (more : List ℕ) → escaped_bytes place (bytes ++ more) ≡ bytes ++ escaped_bytes place more
