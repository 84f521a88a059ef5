-- The moves in raw text and script data.
use Rattle.std.specs.Prelude.{ℕ, List, Bool, true, false, ◌&&◌, Option, None, Some, if◌then◌else◌}
use Rattle.hp_tokens.specs.declared.state.State.{State}
use Rattle.hp_tokens.specs.declared.state.State.TheVariants.{Rcdata, Rawtext, ScriptData, Plaintext, ScriptDataEscaped, ScriptDataDoubleEscaped, RcdataEndTagName, RawtextEndTagName, ScriptDataEndTagName, ScriptDataEscapedEndTagName}
use Rattle.hp_tokens.specs.declared.machine.Machine.{Machine}
use Rattle.hp_tokens.specs.Moves.{Lexing, Move, Rules, needs_more, asks_last_tag, read_as, row_move, row_end}
use Rattle.hp_lex_raw.specs.Rows.{has_row, row, ends_name}

-- the states of this part of the lexer
abbrev pub is_here : State → Bool
is_here s = has_row s

-- the states whose text is read in runs
abbrev pub reads_text : State → Bool
reads_text Rcdata = true
reads_text Rawtext = true
reads_text ScriptData = true
reads_text Plaintext = true
reads_text ScriptDataEscaped = true
reads_text ScriptDataDoubleEscaped = true
reads_text _ = false

-- the states in which the name of an end tag is read
abbrev pub names_end_tag : State → Bool
names_end_tag RcdataEndTagName = true
names_end_tag RawtextEndTagName = true
names_end_tag ScriptDataEndTagName = true
names_end_tag ScriptDataEscapedEndTagName = true
names_end_tag _ = false

abbrev pub is_untold : Option (List ℕ) → Bool
is_untold None = true
is_untold (Some name) = false

-- the last start tag's name is asked where an end tag's name ends and the lexer was not told it
abbrev pub asks : Machine → ℕ → Bool
asks m c = (names_end_tag m.state && is_untold m.last_tag) && ends_name (read_as c)

-- No move is made in the states of other parts. At the end of input nothing is asked.
abbrev pub raw_rules : Rules
raw_rules = record {
  on = λ l c cs. if has_row l.machine.state then (if asks l.machine c then asks_last_tag else row_move row l c cs) else needs_more;
  last = λ l text. if has_row l.machine.state then row_end row l text else needs_more;
}
