-- The laws of moves.
use Rattle.std.specs.Prelude.{List}
use Rattle.hp_elements.specs.declared.token.Token.{Token}
use Rattle.hp_names.specs.References.{Reference}
use Rattle.hp_tokens.specs.Moves.{Lexing, move, end_move}
use Rattle.hp_control.specs.States.{ControlState}
use Rattle.hp_lexer.specs.Table.{table}
use Rattle.hp_model.specs.Handling.{handle}
use Rattle.hp_runs.specs.Alike.{Alike, SameMove}
use Rattle.hp_runs.specs.Closing.{AreCharacters}
use Rattle.hp_runs.specs.Handling.{AreQuiet}

-- lexers that are alike make the same moves
abbrev pub MovesSame : Type 0
MovesSame = (names : List Reference) (l k : Lexing) → Alike l k → SameMove (move (table names) l) (move (table names) k)

abbrev pub EndMovesSame : Type 0
EndMovesSame = (names : List Reference) (l k : Lexing) → Alike l k → SameMove (end_move (table names) l) (end_move (table names) k)

-- characters switch the lexer nowhere
abbrev pub CharactersQuiet : Type 0
CharactersQuiet = (c : ControlState) (ts : List Token) → AreCharacters ts → AreQuiet handle c ts
