-- What sources and sinks say of their bytes, and when a count of faults rose.
use Rattle.std.specs.Prelude.{◌≡◌, ℕ, ◌+◌, ◌-◌, ◌^◌, ◌<◌, ◌⊎◌, min, List, Option, length}
use Rattle.std.specs.Io.KnownBytes.{prepend_known}

-- the next number of a count in 64 bits, which stands still at its end
abbrev pub next_count : ℕ → ℕ
next_count n = min (n + 1) (2 ^ 64 - 1)

-- a count of faults is greater than before, or it stands at the end of its type, where it stays
abbrev pub Rose : ℕ → ℕ → Type 0
Rose old new = (old < new) ⊎ (new ≡ 2 ^ 64 - 1)

-- between these two moments a source gave some bytes, whose number is in `amount`, and nothing else
abbrev pub Gives : (ℕ → Type 0) → Option (List ℕ) → Option (List ℕ) → Type 0
Gives amount old new = (bytes : List ℕ) × (amount (length bytes) × (old ≡ prepend_known bytes new))
