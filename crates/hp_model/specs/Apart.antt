-- Handling doesn't read the lexer's part of the control state, and leaves it as it was; so do the steps of a run.
use Rattle.std.specs.Prelude.{◌≡◌, List}
use Rattle.hp_elements.specs.declared.token.Token.{Token}
use Rattle.hp_tokens.specs.declared.lexing.LexState.{LexState}
use Rattle.hp_tokens.specs.Moves.{Rules}
use Rattle.hp_control.specs.declared.edit.Edit.{Edit}
use Rattle.hp_control.specs.Outcome.{Outcome}
use Rattle.hp_control.specs.States.{ControlState}
use Rattle.hp_model.specs.AtOnce.{handle_at_once}
use Rattle.hp_model.specs.Handling.{handle}
use Rattle.hp_model.specs.Runs.{Goes, Parser, step}
use Rattle.hp_model.specs.Turns.{Handled, left_by}

-- the same but for the lexer's part
abbrev pub relexed_state : LexState → ControlState → ControlState
relexed_state lex c = record c { lex = lex }

abbrev pub relexed_outcome : LexState → Outcome → Outcome
relexed_outcome lex o = record o { control = relexed_state lex o.control }

abbrev pub relexed : LexState → Handled → Handled
relexed lex h = record h { outcome = relexed_outcome lex h.outcome }

abbrev pub relexed_parser : LexState → Parser → Parser
relexed_parser lex p = record p { control = relexed_state lex p.control }

-- whatever the lexer's part is, the same is done, and that is left
abbrev pub IsApart : (ControlState → Token → Handled) → Type 0
IsApart does = (lex : LexState) (c : ControlState) (t : Token) → does (relexed_state lex c) t ≡ relexed lex (does c t)

-- a token
abbrev pub HandlingApart : Type 0
HandlingApart = IsApart handle

-- a token at once
abbrev pub AtOnceApart : Type 0
AtOnceApart = IsApart handle_at_once

-- so the lexer's part is left as it was
abbrev pub LeavesLex : (ControlState → Token → Handled) → Type 0
LeavesLex does = (c : ControlState) (t : Token) → (left_by (does c t)).lex ≡ c.lex

abbrev pub HandlingLeaves : Type 0
HandlingLeaves = LeavesLex handle

abbrev pub AtOnceLeaves : Type 0
AtOnceLeaves = LeavesLex handle_at_once

-- from a parser with another one, the steps of a run lead to the same parser with that, with the same edits
abbrev pub RunsApart : Type 0
RunsApart = (rules : Rules) (lex : LexState) (p q : Parser) (es : List Edit) → Goes (step rules) p es q → Goes (step rules) (relexed_parser lex p) es (relexed_parser lex q)

-- and leave it as it was
abbrev pub RunsLeave : Type 0
RunsLeave = (rules : Rules) (p q : Parser) (es : List Edit) → Goes (step rules) p es q → q.control.lex ≡ p.control.lex
