-- What the readers of a selector hand out.
use Rattle.std.specs.Prelude.{ℕ, Bool, true, false, List, [], ◌∷◌, Option, Some, None}
use Rattle.std.specs.Borrow.{Bor}
use Rattle.hp_select.specs.declared.selector.Simple.{Simple}
use Rattle.hp_select.specs.declared.selector.Simple.TheVariants.{Id, Class}
use Rattle.hp_select.specs.Grammar.{Part}

-- a part, and the text behind it
abbrev pub part_seen : {A : Type 0} → Option (A × Bor (List ℕ)) → Part A
part_seen None = None
part_seen (Some (part, rest)) = Some (part, rest.now)

abbrev pub name_seen : Option (Bor (List ℕ) × Bor (List ℕ)) → Part (List ℕ)
name_seen None = None
name_seen (Some (name, rest)) = Some (name.now, rest.now)

-- what is read of a compound first: a type or `*`, where there is one
abbrev pub front_of : List ℕ → Part Simple → List Simple × List ℕ
front_of text None = ([], text)
front_of text (Some (simple, rest)) = (simple ∷ [], rest)

abbrev pub id_or_class : Bool → List ℕ → Simple
id_or_class true name = Class name
id_or_class false name = Id name
