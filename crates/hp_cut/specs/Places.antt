-- Places in a text: starts of code points, tags, and lists of places at which a text is cut.
use Rattle.std.specs.Prelude.{◌≡◌, ℕ, zero, suc, ◌+◌, ◌-◌, ◌<◌, ◌≤◌, Bool, true, false, ◌&&◌, ◌||◌, IsTrue, ◌==◌, nat_lt, nat_le, List, [], ◌∷◌, ◌++◌, length, Option, Some, None, slice_index, All}
use Rattle.std.specs.Char.{is_ascii_alphabetic}
use Rattle.std.specs.List.Sorted.{IsStrictlyIncreasing}

-- whether a byte begins a code point of UTF-8: no byte from 128 to 191 does
abbrev pub begins : ℕ → Bool
begins byte = nat_lt byte 128 || nat_le 192 byte

-- whether a code point of the text starts at the place
abbrev pub is_start : List ℕ → ℕ → Bool
is_start text place = nat_lt place (length text) && begins (slice_index text place)

-- whether `<` and an ASCII letter stand at the place
abbrev pub is_tag : List ℕ → ℕ → Bool
is_tag text place = (slice_index text place == 60) && is_ascii_alphabetic (slice_index text (place + 1))

-- the first of the `n` numbers from `from` on that passes the test
unfoldable pub first_among : (ℕ → Bool) → ℕ → ℕ → Option ℕ
first_among test from zero = None
first_among test from (suc n) = elim (test from) [ true ↦ Some from | false ↦ first_among test (from + 1) n ]

-- the first number from `from` on and below `to` that passes the test
unfoldable pub first_within : (ℕ → Bool) → ℕ → ℕ → Option ℕ
first_within test from to = first_among test from (to - from)

-- places that cut a text of this length: above 0 and rising, below the length, at most 4,095
pub record AreLawful (places : List ℕ) (text_length : ℕ) : Type 0 where
  pub rising : IsStrictlyIncreasing (0 ∷ places)
  pub within : All (λ place. place < text_length) places
  pub few : length places ≤ 4095

-- a list of places with the length of the text that they cut
pub record Cutting : Type 0 where
  pub places : List ℕ
  pub text_length : ℕ

-- the cutting is of this text: of its length, and each place is the start of a code point
pub record IsOf (text : List ℕ) (cutting : Cutting) : Type 0 where
  pub same_length : cutting.text_length ≡ length text
  pub at_starts : All (λ place. IsTrue (is_start text place)) cutting.places

-- where the chunks begin, and where the last one ends
abbrev pub ends : Cutting → List ℕ
ends cutting = 0 ∷ (cutting.places ++ cutting.text_length ∷ [])
