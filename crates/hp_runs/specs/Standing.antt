-- How far the sequential parser has come over a text, told by where the lexer stands in a piece of it (13.2).
use Rattle.std.specs.Prelude.{ℕ, List}
use Rattle.hp_names.specs.References.{Reference}
use Rattle.hp_tokens.specs.Moves.{Lexing}
use Rattle.hp_tokens.specs.Runs.{followed_by as more_unread}
use Rattle.hp_control.specs.declared.edit.Edit.{Edit}
use Rattle.hp_control.specs.States.{ControlState}
use Rattle.hp_lexer.specs.Table.{table}
use Rattle.hp_model.specs.Runs.{Goes, Parser, at_start, followed_by, step}
use Rattle.hp_runs.specs.Alike.{Alike}

-- From this parser steps led, with these edits, to this control state, and to where the lexer stands; behind what is unread
-- there, that text follows. Places may be counted otherwise.
pub record HasGone (names : List Reference) (from : Parser) (here : Lexing) (later : List ℕ) (c : ControlState) (edits : List Edit) : Type 0 where
  pub at : Lexing
  pub goes : Goes (step (table names)) from edits (record { lexing = at; control = c })
  pub alike : Alike (more_unread here later) at

-- the same from a page's start
abbrev pub HasRead : List Reference → List ℕ → Lexing → List ℕ → ControlState → List Edit → Type 0
HasRead names page here later c edits = HasGone names (followed_by at_start page) here later c edits
