-- What a question is made of. Two questions of the same parts are one.
use Rattle.std.specs.Prelude.{ℕ, ◌==◌, Bool, ◌&&◌, List, [], ◌∷◌}
use Rattle.std.specs.Cmp.Lexicographic.{pointwise}
use Rattle.std.specs.Str.{bytes_eq}
use denote.Enum.Declared.{tag_of}
use Rattle.hp_elements.specs.contracts.sets.SetName as sets
use Rattle.hp_elements.specs.declared.sets.Namespace.TheVariants as namespace
use Rattle.hp_elements.specs.declared.sets.SetName.{SetName}
use Rattle.hp_elements.specs.declared.kinds.Kinds.{Kinds}
use Rattle.hp_elements.specs.declared.kinds.Kinds.TheVariants as kinds
use Rattle.hp_elements.specs.declared.tag.Tag.{Tag}
use Rattle.hp_elements.specs.Sets.{same_namespace}
use Rattle.hp_control.specs.declared.question.FactKind.{FactKind}
use Rattle.hp_control.specs.declared.question.FactKind.TheVariants.{Quirks, LastTag}
use Rattle.hp_control.specs.declared.question.Question.{Question}
use Rattle.hp_control.specs.declared.question.Question.TheVariants as ask
use Rattle.hp_control.specs.Walks.{same_attribute}

-- the place of a set among all sets
abbrev pub set_place : SetName → ℕ
set_place s = tag_of sets.the_type s

abbrev pub fact_place : FactKind → ℕ
fact_place Quirks = 0
fact_place LastTag = 1

-- kinds of elements, spelled in numbers
abbrev pub kinds_spelled : Kinds → List ℕ
kinds_spelled kinds.Nothing = 0 ∷ []
kinds_spelled kinds.All = 1 ∷ []
kinds_spelled kinds.AnyHtml = 2 ∷ []
kinds_spelled kinds.HtmlOrPoint = 3 ∷ []
kinds_spelled (kinds.Html name) = 4 ∷ name
kinds_spelled (kinds.Foreign name) = 5 ∷ name
kinds_spelled (kinds.Set s) = 6 ∷ set_place s ∷ []

-- which question it is, its numbers, and what it names
pub record Parts : Type 0 where
  pub which : ℕ
  pub depth : ℕ
  pub cuts : ℕ
  pub goals : Kinds
  pub stops : Kinds
  pub tag : Tag

abbrev pub tag_named : List ℕ → Tag
tag_named name = record { namespace = namespace.Html; name = name; attributes = [] }

abbrev pub numbers : ℕ → ℕ → ℕ → Parts
numbers which depth cuts = record { which = which; depth = depth; cuts = cuts; goals = kinds.Nothing; stops = kinds.Nothing; tag = tag_named [] }

abbrev pub parts : Question → Parts
parts ask.Entry = numbers 0 0 0
parts (ask.Elem depth) = numbers 1 depth 0
parts (ask.Seen depth goals stops) = record (numbers 2 depth 0) { goals = goals; stops = stops }
parts (ask.Reach depth goals stops) = record (numbers 3 depth 0) { goals = goals; stops = stops }
parts (ask.RunOf depth names) = record (numbers 4 depth 0) { goals = names }
parts (ask.HasTemplate depth) = numbers 5 depth 0
parts (ask.ResetFrom depth) = numbers 6 depth 0
parts (ask.Quiet depth cuts) = numbers 7 depth cuts
parts (ask.Listed depth cuts name) = record (numbers 8 depth cuts) { tag = tag_named name }
parts (ask.Same cuts tag) = record (numbers 9 0 cuts) { tag = tag }
parts (ask.Pointer depth) = numbers 10 depth 0
parts (ask.Fact which) = numbers 11 (fact_place which) 0
parts (ask.Whole depth) = numbers 12 depth 0

abbrev pub same_kinds : Kinds → Kinds → Bool
same_kinds a b = bytes_eq (kinds_spelled a) (kinds_spelled b)

-- the same attributes, in the same order
abbrev pub equal_tags : Tag → Tag → Bool
equal_tags a b = same_namespace a.namespace b.namespace && (bytes_eq a.name b.name && pointwise same_attribute a.attributes b.attributes)

abbrev pub same_numbers : Parts → Parts → Bool
same_numbers a b = (a.which == b.which) && ((a.depth == b.depth) && (a.cuts == b.cuts))

abbrev pub same_parts : Parts → Parts → Bool
same_parts a b = same_numbers a b && (same_kinds a.goals b.goals && (same_kinds a.stops b.stops && equal_tags a.tag b.tag))

-- whether two questions are one
abbrev pub same_question : Question → Question → Bool
same_question q r = same_parts (parts q) (parts r)
