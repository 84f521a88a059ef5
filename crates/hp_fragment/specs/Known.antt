-- The run over a text from a known state, and the end of input behind it (13.2).
use Rattle.std.specs.Prelude.{◌≡◌, true, List, [], ◌++◌, ℕ, None, map}
use Rattle.std.specs.Option.{unwrap_or}
use Rattle.hp_names.specs.BuiltIn.{built_in}
use Rattle.hp_tokens.specs.Advancing.{held}
use Rattle.hp_control.specs.Apply.{named_edit}
use Rattle.hp_control.specs.Faithful.{state_over}
use Rattle.hp_control.specs.Nothing.{nothing}
use Rattle.hp_control.specs.States.{ControlState}
use Rattle.hp_control.specs.Truth.{answer_of}
use Rattle.hp_control.specs.declared.below.Nothing.{Nothing}
use Rattle.hp_control.specs.declared.edit.Edit.{Edit}
use Rattle.hp_model.specs.Runs.{followed_by}
use Rattle.hp_older.specs.Over.{IsOver}
use Rattle.hp_pieces.specs.Running.{Ends, Leads, parser_in}
use Rattle.hp_fragment.specs.Making.{Amounts, HasGrownTo, SinkKind}
use Rattle.hp_fragment.specs.Reading.{Stage, Way, stage}
use Rattle.hp_fragment.specs.declared.parsing.Parsing.{Parsing}
use Rattle.hp_fragment.specs.declared.sink.Naming.TheVariants.{Ids}
use Rattle.hp_fragment.specs.declared.sink.Splitting.{Splitting}

-- a parser with nothing below
abbrev pub stage_of : Parsing Nothing → Stage
stage_of = stage (λ below. record { says = answer_of nothing; kept = None })

-- the run over a text from that state, with nothing older
abbrev pub way_from : ControlState → List ℕ → SinkKind → Way
way_from entry text kind = record {
  older = nothing;
  name = unwrap_or entry.lex.machine.last_tag [];
  told = true;
  base = held entry.lex;
  from = followed_by (parser_in entry) text;
  kind = kind;
}

-- the control state where nothing is older
abbrev pub state_of : Stage → ControlState
state_of p = record (state_over p.split nothing) { lex = p.lexer.lex }

-- the run over the text from that state led to where the parser stands
pub record RanFrom (entry : ControlState) (text : List ℕ) (kind : SinkKind) (p : Stage) : Type 0 where
  pub over : IsOver nothing p.split
  pub edits : List Edit
  pub leads : Leads built_in text entry edits (state_of p)
  pub amounts : Amounts kind p.sink nothing p.split.edits edits

-- the end of input was handled
pub record EndsInput (old new : Stage) : Type 0 where
  pub made : List Edit
  pub ends : Ends built_in (state_of old) made
  pub amounts : (kind : SinkKind) (edits : List Edit) → Amounts kind old.sink nothing old.split.edits edits → Amounts kind new.sink nothing new.split.edits (edits ++ made)

-- The run over the text leads from one state to another. The first of its edits were split, where own elements have the ids from the
-- entry's next one on, and these are the others.
pub record LeadsPartlySplit (text : List ℕ) (entry : ControlState) (splitting : Splitting) (rest : List Edit) (exit : ControlState) : Type 0 where
  pub naming : splitting.naming ≡ Ids entry.next
  pub first : List Edit
  pub grown : HasGrownTo splitting first
  pub leads : Leads built_in text entry (map (named_edit nothing) (first ++ rest)) exit
