-- The code points of a text that owns them.
use Rattle.std.specs.Prelude.{ℕ, List, string_bytes, IsUtf8}
use Rattle.std.specs.Str.{chars}
use Rattle.hp_elements.specs.Names.{text_of}
use Rattle.hp_tokens.specs.declared.owned.Store.{Store}
use Rattle.hp_tokens.specs.declared.owned.Store.TheVariants.{Few, Long, Named}

abbrev pub stored : Store → List ℕ
stored (Few bytes) = bytes
stored (Long text) = string_bytes text
stored (Named known) = text_of known

abbrev pub spelled : Store → List ℕ
spelled s = chars (stored s)

abbrev pub IsStored : Store → Type 0
IsStored s = IsUtf8 (stored s)
