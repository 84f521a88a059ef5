-- The lexer reads an escaped text back (13.2.5.1, 13.2.5.72, 13.2.5.73).
use Rattle.std.specs.Prelude.{◌≡◌, ℕ, List, [], ◌∷◌, ◌++◌, map, true, false}
use Rattle.std.specs.List.{list_all}
use Rattle.hp_elements.specs.declared.token.Rest.TheVariants as rest
use Rattle.hp_names.specs.BuiltIn.{built_in}
use Rattle.hp_tokens.specs.Advancing.{tokens_of}
use Rattle.hp_tokens.specs.Moves.{Lexing, Emitted, move, standing}
use Rattle.hp_tokens.specs.Plain.{none_of}
use Rattle.hp_tokens.specs.Rows.{character, resting}
use Rattle.hp_tokens.specs.Runs.{Leads}
use Rattle.hp_lexer.specs.Table.{table}
use Rattle.hp_serial.specs.declared.escape.Place.TheVariants.{Text}
use Rattle.hp_serial.specs.Escaping.{escaped}

-- the lexer rests in the data state before this text
abbrev pub in_data : ℕ → List ℕ → Lexing
in_data place text = standing (resting rest.Data false) place place text

-- moves over the escaped text emit its code points, each by itself, and lead to what stands behind it
pub record IsReadBack (place : ℕ) (text more : List ℕ) : Type 0 where
  pub emitted : List Emitted
  pub there : ℕ
  pub leads : Leads (move (table built_in)) (in_data place (escaped Text text ++ more)) emitted (in_data there more)
  pub tokens : tokens_of emitted ≡ map character text

-- so is each text without CR, which is read as LF
abbrev pub ReadsBack : Type 0
ReadsBack = (place : ℕ) (text more : List ℕ) → list_all (none_of (13 ∷ [])) text ≡ true → IsReadBack place text more
