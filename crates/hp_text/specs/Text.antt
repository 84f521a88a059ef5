-- The text of a page's bytes.
use Rattle.std.specs.Prelude.{ℕ, List, [], ◌∷◌, drop, nat_eq, if◌then◌else◌}
use Rattle.std.specs.List.{starts_with}

-- the UTF-8 of U+FEFF
abbrev pub byte_order_mark : List ℕ
byte_order_mark = 0xEF ∷ 0xBB ∷ 0xBF ∷ []

-- the bytes without one leading byte order mark
abbrev pub without_mark : List ℕ → List ℕ
without_mark bytes = if starts_with nat_eq bytes byte_order_mark then drop 3 bytes else bytes
