-- Why a list of places can't cut a text.
use Rattle.std.specs.Prelude.{ℕ, Bool, not, nat_lt, nat_le, List, ◌∷◌, length, Option, Some, None, slice_index, if◌then◌else◌}
use Rattle.hp_cut.specs.Places.{is_start, first_within}
use Rattle.hp_cut.specs.declared.listed.CutRefusal.{CutRefusal}
use Rattle.hp_cut.specs.declared.listed.CutRefusal.TheVariants.{NotRising, PastEnd, NotABoundary, TooMany}

-- the first of these indices that passes, as a refusal, or else the later refusal
abbrev pub refused_at : (ℕ → CutRefusal) → Option ℕ → Option CutRefusal → Option CutRefusal
refused_at refusal (Some index) later = Some (refusal index)
refused_at refusal None later = later

-- whether the place at this index isn't above the one before, or above 0
abbrev pub falls : List ℕ → ℕ → Bool
falls places index = nat_le (slice_index places index) (slice_index (0 ∷ places) index)

-- whether the place at this index isn't below the length
abbrev pub passes_end : List ℕ → List ℕ → ℕ → Bool
passes_end text places index = nat_le (length text) (slice_index places index)

-- whether no code point starts at the place at this index
abbrev pub splits : List ℕ → List ℕ → ℕ → Bool
splits text places index = not (is_start text (slice_index places index))

-- the first index of these places that passes
abbrev pub first_index : (ℕ → Bool) → List ℕ → Option ℕ
first_index test places = first_within test 0 (length places)

-- why these places can't cut the text
abbrev pub refusal : List ℕ → List ℕ → Option CutRefusal
refusal text places =
    refused_at NotRising (first_index (falls places) places)
    (refused_at PastEnd (first_index (passes_end text places) places)
    (refused_at NotABoundary (first_index (splits text places) places)
    (if nat_lt 4095 (length places) then Some TooMany else None)))
