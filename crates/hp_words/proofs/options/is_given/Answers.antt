use Rattle.std.proofs.Common.{◌≡◌, ◌∙◌, ap, Option, None, Some, sym, refl}
use Rattle.std.specs.Option.{option_and_then, option_map}
use Rattle.std.specs.List.{find}
use Rattle.std.specs.Str.{bytes_eq}
use Rattle.clap.specs.Facts.{Entry}
use Rattle.clap.specs.Matches.{found_of, matched_of}
use Rattle.clap.specs.Walk.{Row, Text, row_of, rows_of}
use Rattle.clap.specs.declared.parser.matches.Found.{Found}
use Rattle.clap.specs.declared.parser.matches.MatchedArg.{MatchedArg}
use Rattle.clap.proofs.WalkLemmas.{find_row}
use Rattle.hp_words.specs.Options.{is_from_word}
use Rattle.hp_words.proofs.options.is_given.Goals as goal

-- where a value came from, by its entry and by its row
source_by_row : (entry : Option Entry) → option_and_then (λ (a : MatchedArg). a.source) (option_map (λ e. e.1) entry) ≡ option_and_then (λ (row : Row). row.source) (option_map row_of entry)
source_by_row None = refl
source_by_row (Some entry) = refl

source_rows : (f : Found) (id : Text) → option_and_then (λ (a : MatchedArg). a.source) (matched_of f id) ≡ option_and_then (λ (row : Row). row.source) (find (λ row. bytes_eq row.id id) (rows_of f))
source_rows f id =
    source_by_row (find (λ e. bytes_eq e.0.now id) f.entries.items) ∙ ap (option_and_then (λ (row : Row). row.source)) (sym (find_row f.entries.items id))

pub returns : goal.returns
returns c = c.is_from_word.ensures ∙ ap is_from_word (c.value_source.ensures ∙ source_rows (found_of c.args.matches.now) c.args.name.now)
