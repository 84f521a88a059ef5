-- The code point of a numeric character reference (13.2.5.80).
use Rattle.std.specs.Prelude.{ℕ, ◌==◌, ◌&&◌, ◌||◌, nat_lt, nat_le, Bool, List, [], ◌∷◌, if◌then◌else◌}

-- the values that stand for another code point, each with that: the control codes that windows-1252 gives a meaning
abbrev pub replacements : List (ℕ × ℕ)
replacements =
    (0x80, 0x20AC) ∷ (0x82, 0x201A) ∷ (0x83, 0x192) ∷ (0x84, 0x201E) ∷ (0x85, 0x2026) ∷ (0x86, 0x2020) ∷ (0x87, 0x2021) ∷
    (0x88, 0x2C6) ∷ (0x89, 0x2030) ∷ (0x8A, 0x160) ∷ (0x8B, 0x2039) ∷ (0x8C, 0x152) ∷ (0x8E, 0x17D) ∷ (0x91, 0x2018) ∷
    (0x92, 0x2019) ∷ (0x93, 0x201C) ∷ (0x94, 0x201D) ∷ (0x95, 0x2022) ∷ (0x96, 0x2013) ∷ (0x97, 0x2014) ∷ (0x98, 0x2DC) ∷
    (0x99, 0x2122) ∷ (0x9A, 0x161) ∷ (0x9B, 0x203A) ∷ (0x9C, 0x153) ∷ (0x9E, 0x17E) ∷ (0x9F, 0x178) ∷ []

-- the code point that the list gives for the value, or else the value itself
abbrev pub replaced : List (ℕ × ℕ) → ℕ → ℕ
replaced [] value = value
replaced (r ∷ rs) value = if value == r.0 then r.1 else replaced rs value

abbrev pub is_surrogate : ℕ → Bool
is_surrogate value = nat_le 0xD800 value && nat_le value 0xDFFF

-- U+FFFD for 0, for a surrogate and for what is past the last code point
abbrev pub numeric : ℕ → ℕ
numeric value =
    if value == 0 || is_surrogate value || nat_lt 0x10FFFF value then 0xFFFD else replaced replacements value
