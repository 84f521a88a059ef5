-- What each cutter takes as its places.
use Rattle.std.specs.Prelude.{◌≡◌, ℕ, zero, suc, ◌+◌, ◌-◌, ◌/◌, Bool, true, false, nat_lt, nat_le, List, [], ◌∷◌, length, Option, Some, None, unwrap_or, max, min, if◌then◌else◌}
use Rattle.std.specs.Int.{div_ceil}
use Rattle.hp_cut.specs.Places.{is_start, is_tag, first_within}
use Rattle.hp_cut.specs.declared.choice.Cutter.{Cutter}
use Rattle.hp_cut.specs.declared.choice.Cutter.TheVariants.{BySize, AtTags}

-- the distance of the targets: the size, or what makes 4,096 chunks of the text where that is more
abbrev pub step : ℕ → ℕ → ℕ
step size text_length = max size (div_ceil text_length 4096)

-- `n` numbers from `target` on, each `by` above the one before
unfoldable pub numbers_by : ℕ → ℕ → ℕ → List ℕ
numbers_by by target zero = []
numbers_by by target (suc n) = target ∷ numbers_by by (target + by) n

-- the multiples of the step from the first on that are below the length
abbrev pub targets : ℕ → ℕ → List ℕ
targets by text_length = numbers_by by by ((text_length - 1) / by)

-- the first start of a code point at or after the target, or the length where there is none
abbrev pub first_start : List ℕ → ℕ → ℕ
first_start text target = unwrap_or (first_within (is_start text) target (length text)) (length text)

-- the first tag in the 512 places from the target on, or else the first start of a code point
abbrev pub first_tag : List ℕ → ℕ → ℕ
first_tag text target = unwrap_or (first_within (is_tag text) target (min (target + 512) (length text))) (first_start text target)

-- the place of a cutter for a target
abbrev pub place_for : Cutter → List ℕ → ℕ → ℕ
place_for BySize text target = first_start text target
place_for AtTags text target = first_tag text target

-- the cut for a target after the last cut: none where the target isn't above that one, or where its place is the length
abbrev pub next_cut : Cutter → List ℕ → ℕ → ℕ → Option ℕ
next_cut cutter text last target =
    let place = place_for cutter text target in
    if nat_le target last then None else (if nat_lt place (length text) then Some place else None)

-- the cuts for these targets after the last cut
unfoldable pub cuts_after : Cutter → List ℕ → ℕ → List ℕ → List ℕ
cuts_after cutter text last [] = []
cuts_after cutter text last (target ∷ targets) =
    elim (next_cut cutter text last target) [ None ↦ cuts_after cutter text last targets | Some place ↦ place ∷ cuts_after cutter text place targets ]

-- the places of a cutter
abbrev pub places_of : Cutter → List ℕ → ℕ → List ℕ
places_of cutter text size = cuts_after cutter text 0 (targets (step size (length text)) (length text))
