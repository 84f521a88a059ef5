-- The rows of a table, each over the bytes of all names, as references.
use Rattle.std.specs.Prelude.{ℕ, List, [], ◌∷◌, take, drop}
use Rattle.hp_names.specs.References.{Reference}
use Rattle.hp_names.specs.declared.table.Row.{Row}

abbrev pub name_at : List ℕ → Row → List ℕ
name_at bytes r = take r.length (drop r.from bytes)

abbrev pub reference_of : List ℕ → Row → Reference
reference_of bytes r = record { name = name_at bytes r; first = r.first; second = r.second }

abbrev pub references : List ℕ → List Row → List Reference
references bytes [] = []
references bytes (r ∷ rs) = reference_of bytes r ∷ references bytes rs
