-- The options that stand in the words.
use Rattle.std.specs.Prelude.{Bool, true, false, List, [], ◌∷◌, Option, Some, None, codes, find, option_and_then, option_map}
use Rattle.std.specs.Str.{bytes_eq}
use Rattle.clap.specs.Words.{Row, Text, fault_of, first_of, matches_of}
use Rattle.clap.specs.Kinds.{Kinds}
use Rattle.hp_words.specs.Command.{app}
use Rattle.clap.specs.declared.parser.matches.ValueSource.{ValueSource}
use Rattle.clap.specs.declared.parser.matches.ValueSource.TheVariants.{CommandLine}
use Rattle.hp_words.specs.declared.options.Options.{Options}

-- the values of the options as texts, and which of those without a value are there
pub record Values : Type 0 where
  pub workers : Option Text
  pub chunk : Option Text
  pub cuts : Option Text
  pub guess : Option Text
  pub report : Bool
  pub html : Bool
  pub select : Option Text
  pub make : Option Text
  pub drill : Option Text
  pub bytes : Option Text

-- the value comes from a word, and is no default
abbrev pub is_from_word : Option ValueSource → Bool
is_from_word (Some CommandLine) = true
is_from_word _ = false

-- the option stands in a word
abbrev pub is_given : Text → List Row → Bool
is_given name rows = is_from_word (option_and_then (λ row. row.source) (find (λ row. bytes_eq row.id name) rows))

-- the values in what clap found
abbrev pub options_in : List Row → Values
options_in rows = record {
  workers = first_of (codes "workers") rows;
  chunk = first_of (codes "chunk") rows;
  cuts = first_of (codes "cuts") rows;
  guess = first_of (codes "guess") rows;
  report = is_given (codes "report") rows;
  html = is_given (codes "html") rows;
  select = first_of (codes "select") rows;
  make = first_of (codes "make") rows;
  drill = first_of (codes "drill") rows;
  bytes = first_of (codes "bytes") rows;
}

-- the values behind references
abbrev pub texts_of : Options → Values
texts_of o = record {
  workers = option_map (λ text. text.now) o.workers;
  chunk = option_map (λ text. text.now) o.chunk;
  cuts = option_map (λ text. text.now) o.cuts;
  guess = option_map (λ text. text.now) o.guess;
  report = o.report;
  html = o.html;
  select = option_map (λ text. text.now) o.select;
  make = option_map (λ text. text.now) o.make;
  drill = option_map (λ text. text.now) o.drill;
  bytes = option_map (λ text. text.now) o.bytes;
}

-- what clap found, where it found no fault
abbrev pub where_faultless : Kinds → List Row → Option Values
where_faultless [] rows = Some (options_in rows)
where_faultless (_ ∷ _) rows = None

-- the values of the options of one simple command; none where clap's published reading refuses the words
unfoldable pub found : List Text → Option Values
found words = where_faultless (fault_of app words) (matches_of app words)
