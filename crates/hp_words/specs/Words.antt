-- The words as a list of texts.
use Rattle.std.specs.Prelude.{ℕ, List, [], map, Option, Some, None, string_bytes}
use Rattle.std.specs.declared.alloc.Global.{Global}
use Rattle.std.specs.declared.string.String.{String}
use Rattle.std.specs.declared.vec.Vec.{Vec}

abbrev pub texts : Option (Vec (String Global) Global) → List (List ℕ)
texts None = []
texts (Some words) = map string_bytes words.items
