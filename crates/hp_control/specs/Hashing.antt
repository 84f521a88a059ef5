-- A number for each question, by which it is found among many.
use Rattle.std.specs.Prelude.{ℕ, ◌*◌, ◌%◌, ◌^◌, List, [], ◌∷◌, Option, Some, None, bit_xor}
use Rattle.std.specs.Hash.FoldHasher.{initial, write, finish}
use Rattle.std.specs.Str.{encode_utf8_all}
use Rattle.hp_elements.specs.Names.{known_of, index_of}
use Rattle.hp_elements.specs.declared.known.Known.{Known}
use Rattle.hp_elements.specs.declared.kinds.Kinds.{Kinds}
use Rattle.hp_elements.specs.declared.kinds.Kinds.TheVariants as kinds
use Rattle.hp_elements.specs.declared.tag.Attribute.{Attribute}
use Rattle.hp_control.specs.declared.question.Question.{Question}
use Rattle.hp_control.specs.declared.question.Question.TheVariants as ask
use Rattle.hp_control.specs.QuestionParts.{set_place, fact_place}

-- with one number more
unfoldable pub mixed : ℕ → ℕ → ℕ
mixed hash number = (bit_xor hash number * 0x517CC1B727220A95) % 2 ^ 64

-- with a text more: what a `FoldHasher` makes of its bytes in UTF-8
abbrev pub mixed_text : ℕ → List ℕ → ℕ
mixed_text hash text = mixed hash (finish (write initial (encode_utf8_all text)))

-- with a name more that is that known one, by its place among all, or else by its text
abbrev pub mixed_known : ℕ → List ℕ → Option Known → ℕ
mixed_known hash text (Some name) = mixed hash (index_of name)
mixed_known hash text None = mixed_text hash text

-- with a name more
abbrev pub mixed_name : ℕ → List ℕ → ℕ
mixed_name hash text = mixed_known hash text (known_of text)

-- with kinds more
abbrev pub mixed_kinds : ℕ → Kinds → ℕ
mixed_kinds hash kinds.Nothing = mixed hash 0
mixed_kinds hash kinds.All = mixed hash 1
mixed_kinds hash kinds.AnyHtml = mixed hash 2
mixed_kinds hash kinds.HtmlOrPoint = mixed hash 3
mixed_kinds hash (kinds.Html name) = mixed_name (mixed hash 4) name
mixed_kinds hash (kinds.Foreign name) = mixed_name (mixed hash 5) name
mixed_kinds hash (kinds.Set s) = mixed (mixed hash 6) (set_place s)

-- with attributes more: the name and the value of each
abbrev pub mixed_attributes : ℕ → List Attribute → ℕ
mixed_attributes hash [] = hash
mixed_attributes hash (a ∷ more) = mixed_attributes (mixed_text (mixed_name hash a.name) a.value) more

-- the number of a question
abbrev pub hash_of : Question → ℕ
hash_of ask.Entry = 0
hash_of (ask.Elem depth) = mixed 1 depth
hash_of (ask.Seen depth goals stops) = mixed_kinds (mixed_kinds (mixed 2 depth) goals) stops
hash_of (ask.Reach depth goals stops) = mixed_kinds (mixed_kinds (mixed 3 depth) goals) stops
hash_of (ask.RunOf depth names) = mixed_kinds (mixed 4 depth) names
hash_of (ask.HasTemplate depth) = mixed 5 depth
hash_of (ask.ResetFrom depth) = mixed 6 depth
hash_of (ask.Quiet depth cuts) = mixed (mixed 7 depth) cuts
hash_of (ask.Listed depth cuts name) = mixed_name (mixed (mixed 8 depth) cuts) name
hash_of (ask.Same cuts tag) = mixed_attributes (mixed_name (mixed 9 cuts) tag.name) tag.attributes
hash_of (ask.Pointer depth) = mixed 10 depth
hash_of (ask.Fact which) = mixed 11 (fact_place which)
hash_of (ask.Whole depth) = mixed 12 depth
