-- The place up to which a fragment can reach over an older state.
use Rattle.std.specs.Prelude.{◌≡◌, ℕ, true, List, None, sum_by}
use Rattle.std.specs.Option.{is_some}
use Rattle.std.specs.Char.{len_utf8}
use Rattle.hp_names.specs.References.{Reference}
use Rattle.hp_control.specs.States.{ControlState}
use Rattle.hp_control.specs.Truth.{rest_of}
use Rattle.hp_lexer.specs.Table.{table}
use Rattle.hp_model.specs.Runs.{followed_by}
use Rattle.hp_runs.specs.Touching.{RunsOwn, TouchesFrom}
use Rattle.hp_pieces.specs.Running.{parser_in}

-- How far a fragment of this text can reach over s, in bytes: not at all where the lexer of s isn't in a resting state; else to
-- where the first token began that touches something older, and all of the text where none does. All tokens of a group began at
-- one place, so a group counts whole.
pub data IsFirst (names : List Reference) (s : ControlState) (text : List ℕ) : ℕ → Type 0 where
  restless : rest_of s.lex.machine.state ≡ None → IsFirst names s text 0
  touched : {place : ℕ} → is_some (rest_of s.lex.machine.state) ≡ true → TouchesFrom (table names) s (followed_by (parser_in s) text) place → IsFirst names s text place
  whole : is_some (rest_of s.lex.machine.state) ≡ true → RunsOwn (table names) s (followed_by (parser_in s) text) → IsFirst names s text (sum_by len_utf8 text)
