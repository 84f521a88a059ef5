-- Numbers in words.
use Rattle.std.specs.Prelude.{ℕ, ◌&&◌, ◌==◌, Bool, List, [], ◌∷◌, map, length, Option, Some, None, if◌then◌else◌, option_map, option_and_then}
use Rattle.std.specs.Int.{is_in_range}
use Rattle.std.specs.List.{list_all, slice_split}
use Rattle.std.specs.Char.{is_ascii_digit}
use Rattle.std.specs.Str.Parse.{digits_value}

-- what `next` makes of a value, where there is one
abbrev pub from : {A B : Type 0} → Option A → (A → Option B) → Option B
from value next = option_and_then next value

-- 1 to 20 ASCII digits
abbrev pub is_numeral : List ℕ → Bool
is_numeral text = is_in_range 1 20 (length text) && list_all is_ascii_digit text

-- the number that a text writes, where it lies within two bounds
abbrev pub number : ℕ → ℕ → List ℕ → Option ℕ
number low high text =
    if is_numeral text && is_in_range low high (digits_value 10 text) then Some (digits_value 10 text) else None

-- the number of an option's value, or the default where the option isn't there
abbrev pub number_or : ℕ → ℕ → ℕ → Option (List ℕ) → Option ℕ
number_or default low high None = Some default
number_or default low high (Some text) = number low high text

-- the items, where each is there
abbrev pub all_present : {A : Type 0} → List (Option A) → Option (List A)
all_present [] = Some []
all_present (item ∷ rest) = from item (λ x. option_map (λ xs. x ∷ xs) (all_present rest))

-- the numbers below 2^32 between commas (44), where each piece is one
abbrev pub places_in : List ℕ → Option (List ℕ)
places_in text = all_present (map (number 0 4294967295) (slice_split (λ byte. byte == 44) text))
