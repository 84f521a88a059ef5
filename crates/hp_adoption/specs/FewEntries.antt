-- A list too short for three equal entries.
use Rattle.std.specs.Prelude.{◌≡◌, true, ◌<◌, length}
use Rattle.std.specs.Option.{is_some}
use Rattle.hp_control.specs.Faithful.{Split}

-- no entry is older, and there are fewer than three
abbrev pub IsShort : Split → Type 0
IsShort v = (is_some v.page ≡ true) × (length v.change.formatting < 3)
