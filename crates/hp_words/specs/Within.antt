-- The ranges that a setting keeps.
use Rattle.std.specs.Prelude.{ℕ, ◌≤◌, ◌<◌}
use Rattle.std.specs.List.{All}
use Rattle.hp_words.specs.declared.setting.PageSetting.{PageSetting}
use Rattle.hp_words.specs.declared.setting.Setting.{Setting}
use Rattle.hp_words.specs.declared.setting.Setting.TheVariants.{Page, Make, Drill}
use Rattle.hp_words.specs.declared.setting.CutSetting.{CutSetting}
use Rattle.hp_words.specs.declared.setting.CutSetting.TheVariants.{AtTags, Listed}

-- from `low` to `high`
pub record IsBetween (low high n : ℕ) : Type 0 where
  pub least : low ≤ n
  pub most : n ≤ high

-- a chunk's size is 64 to 16,777,216 bytes, and each listed place is below 2^32
abbrev pub IsCuttingWithin : CutSetting → Type 0
IsCuttingWithin (AtTags size) = IsBetween 64 16777216 size
IsCuttingWithin (Listed places) = All (λ place. place < 4294967296) places

-- a page is parsed by 1 to 64 workers
pub record IsPageWithin (page : PageSetting) : Type 0 where
  pub workers : IsBetween 1 64 page.workers
  pub cutting : IsCuttingWithin page.cutting

-- a drill makes a page of 1 to 16,777,216 bytes, and parses it by 1 to 64 workers in chunks of a size that it may have
pub record IsDrillWithin (made asked size : ℕ) : Type 0 where
  pub bytes : IsBetween 1 16777216 made
  pub workers : IsBetween 1 64 asked
  pub chunk : IsBetween 64 16777216 size

-- each number of the setting lies in its range
abbrev pub IsWithin : Setting → Type 0
IsWithin (Page page) = IsPageWithin page
IsWithin (Make seed bytes) = IsBetween 1 16777216 bytes
IsWithin (Drill seed bytes workers chunk) = IsDrillWithin bytes workers chunk
