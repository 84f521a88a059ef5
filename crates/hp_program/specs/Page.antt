-- The text of a page.
use Rattle.std.specs.Prelude.{ℕ, List}
use Rattle.std.specs.Str.{chars}
use Rattle.hp_text.specs.Text.{without_mark}

-- the code points of a page, without one leading byte order mark
abbrev pub page_text : List ℕ → List ℕ
page_text bytes = chars (without_mark bytes)
