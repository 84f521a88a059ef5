-- Numbers that wrap past 32 bits.
use Rattle.std.proofs.Common.{◌≡◌, ℕ, ◌+◌, ◌-◌, ◌^◌, ◌<◌, ◌≤◌, arith}
use Rattle.hp_store.specs.Numbers.{counted, way}

-- a number leads to where its way was taken from
pub counted-way : (from to : ℕ) → from < 2 ^ 32 → to < 2 ^ 32 → counted from (way from to) ≡ to
counted-way from to h k = grind arith

-- a number counts on from further back
pub counted-further : (before from on : ℕ) → counted (before + from) on ≡ counted before (counted from on)
counted-further before from on = grind arith

-- numbers that stay within 32 bits don't wrap
pub counted-plain : (from on : ℕ) → from + on < 2 ^ 32 → counted from on ≡ from + on
counted-plain from on h = grind arith

-- the way to what comes after
pub way-on : (from to : ℕ) → from ≤ to → to < 2 ^ 32 → way from to ≡ to - from
way-on from to h k = grind arith

-- the way to what doesn't come after is long
pub way-back : (from to : ℕ) → to < from → from < 2 ^ 32 → way from to ≡ to + (2 ^ 32 - from)
way-back from to h k = grind arith

-- where the way is short, the number comes after
pub way-short : (from to count : ℕ) → from + count < 2 ^ 32 → to < 2 ^ 32 → way from to < count → from ≤ to
way-short from to count h k s = grind arith

-- a short way leads to the number itself
pub way-place : (from to count : ℕ) → from + count < 2 ^ 32 → to < 2 ^ 32 → way from to < count → from + way from to ≡ to
way-place from to count h k s = grind arith

-- the place of an element that comes after so many others
pub element-way : (from id : ℕ) → from < id → id < 2 ^ 32 → way 1 (way from id) ≡ id - from - 1
element-way from id h k = grind arith

pub element-short : (from id count : ℕ) → from + count < 2 ^ 32 → id < 2 ^ 32 → way 1 (way from id) < count → from < id
element-short from id count h k s = grind arith
