-- The run of the sequential parser over a text from a known state, and the end of input from one (13.2), over any table of reference names.
use Rattle.std.specs.Prelude.{◌≡◌, ℕ, List}
use Rattle.hp_names.specs.References.{Reference}
use Rattle.hp_tokens.specs.Moves.{standing}
use Rattle.hp_control.specs.declared.edit.Edit.{Edit}
use Rattle.hp_control.specs.States.{ControlState, lex_start}
use Rattle.hp_groves.specs.Joining.{JoinTexts}
use Rattle.hp_lexer.specs.Table.{table}
use Rattle.hp_model.specs.Runs.{EndsWith, Parser}
use Rattle.hp_runs.specs.Pages.{Runs}

-- The parser in this state, before a text: what was read ahead is unread. Where the lexer stands is told once, so it is not
-- told in the control state too.
abbrev pub parser_in : ControlState → Parser
parser_in s = record { lexing = standing s.lex.machine 0 0 s.lex.ahead; control = record s { lex = lex_start } }

-- the state between two texts: what is unread was read ahead
abbrev pub state_at : Parser → ControlState
state_at p = record p.control { lex = record { machine = p.lexing.machine; ahead = p.lexing.unread } }

-- the run over the text leads from one state to another, with edits that are these but for how texts are joined
pub record Leads (names : List Reference) (text : List ℕ) (entry : ControlState) (edits : List Edit) (exit : ControlState) : Type 0 where
  pub made : List Edit
  pub there : Parser
  pub run : Runs names (parser_in entry) text made there
  pub reaches : exit ≡ state_at there
  pub same : JoinTexts edits made

-- the end of input from this state has edits that are these but for how texts are joined
pub record Ends (names : List Reference) (entry : ControlState) (edits : List Edit) : Type 0 where
  pub made : List Edit
  pub ends : EndsWith (table names) (parser_in entry) made
  pub same : JoinTexts edits made
