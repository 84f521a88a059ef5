-- The number by which a known name is found, and the table of places by those numbers.
use Rattle.std.specs.Prelude.{ℕ, List, Option, length, slice_get, slice_index, ◌+◌, ◌-◌, ◌*◌, ◌/◌, ◌%◌}
use Rattle.hp_elements.specs.declared.known.Known.{Known}
use Rattle.hp_elements.specs.Names.{every}
use Rattle.hp_elements.specs.declared.slots.TheConstants.{SLOTS}

-- from the length of a text and four of its bytes, once the text is lowered
abbrev pub slot_of : ℕ → List ℕ → ℕ
slot_of len bytes =
    (len * 202 + slice_index bytes 0 * 419 + slice_index bytes (len / 2) * 28 + slice_index bytes (len - 2) * 304 + slice_index bytes (len - 1) * 178) % 2048

-- the place of the known name that has a number; 255 where there is none
unfoldable pub slots : List ℕ
slots = SLOTS

-- the known name at the number of a lowered text
unfoldable pub named_at : List ℕ → Option Known
named_at bytes = slice_get every (slice_index slots (slot_of (length bytes) bytes))
