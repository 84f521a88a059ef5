-- States before which a text may stand: the lexer needs more text over what was read ahead.
use Rattle.std.specs.Prelude.{◌≡◌, List}
use Rattle.hp_names.specs.References.{Reference}
use Rattle.hp_tokens.specs.Moves.{move, needs_more}
use Rattle.hp_control.specs.States.{ControlState, Fits, IsValid}
use Rattle.hp_lexer.specs.Table.{table}
use Rattle.hp_pieces.specs.Running.{parser_in}

abbrev pub Waits : List Reference → ControlState → Type 0
Waits names s = move (table names) (parser_in s).lexing ≡ needs_more

-- a state before which a chunk may stand
pub record MayStand (names : List Reference) (s : ControlState) : Type 0 where
  pub valid : IsValid s
  pub fits : Fits s
  pub waits : Waits names s
