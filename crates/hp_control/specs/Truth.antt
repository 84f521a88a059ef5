-- The true answer to each question, read in a full state.
use Rattle.std.specs.Prelude.{◌≡◌, ℕ, ◌+◌, Bool, true, false, if◌then◌else◌, List, [], ◌∷◌, min, Option, None, Some, slice_get, drop}
use Rattle.std.specs.Option.{is_some, unwrap_or}
use Rattle.std.specs.List.{list_any}
use Rattle.hp_elements.specs.declared.token.Mode.{Mode}
use Rattle.hp_elements.specs.declared.token.Rest.{Rest}
use Rattle.hp_elements.specs.declared.token.Rest.TheVariants as rest
use Rattle.hp_tokens.specs.declared.state.State.{State}
use Rattle.hp_tokens.specs.declared.state.State.TheVariants.{Data, Rcdata, Rawtext, ScriptData, Plaintext, ScriptDataEscaped, ScriptDataEscapedDash, ScriptDataEscapedDashDash, ScriptDataDoubleEscaped, ScriptDataDoubleEscapedDash, ScriptDataDoubleEscapedDashDash, CdataSection}
use Rattle.hp_control.specs.declared.element.OpenElement.{OpenElement}
use Rattle.hp_control.specs.declared.element.FormattingEntry.{FormattingEntry}
use Rattle.hp_control.specs.declared.question.Question.{Question}
use Rattle.hp_control.specs.declared.question.Question.TheVariants as ask
use Rattle.hp_control.specs.declared.question.Answer.{Answer}
use Rattle.hp_control.specs.declared.question.Answer.TheVariants as answer
use Rattle.hp_control.specs.declared.question.EntryKind.{EntryKind}
use Rattle.hp_control.specs.declared.question.EntryKind.TheVariants.{Absent, Closed, Hidden, InScope}
use Rattle.hp_control.specs.declared.question.FactKind.{FactKind}
use Rattle.hp_control.specs.declared.question.FactKind.TheVariants.{Quirks, LastTag}
use Rattle.hp_control.specs.States.{ControlState, is_template}
use Rattle.hp_control.specs.Walks.{reach, seen, run_of, open_at, scope_at, second_is_body, cleared_by, is_quiet, last_named, has_entry, equals_of, reset_mode}

-- the resting state that a state of the lexer is
abbrev pub rest_of : State → Option Rest
rest_of Data = Some rest.Data
rest_of Rcdata = Some rest.Rcdata
rest_of Rawtext = Some rest.Rawtext
rest_of ScriptData = Some rest.Script
rest_of Plaintext = Some rest.Plaintext
rest_of ScriptDataEscaped = Some rest.Escaped
rest_of ScriptDataEscapedDash = Some rest.EscapedDash
rest_of ScriptDataEscapedDashDash = Some rest.EscapedDashDash
rest_of ScriptDataDoubleEscaped = Some rest.Double
rest_of ScriptDataDoubleEscapedDash = Some rest.DoubleDash
rest_of ScriptDataDoubleEscapedDashDash = Some rest.DoubleDashDash
rest_of CdataSection = Some rest.Cdata
rest_of _ = None

abbrev pub entry_answer : Bool → Mode → Option Mode → Bool → Option Rest → Answer
entry_answer after_cr mode original skip_lf None = answer.NotResting
entry_answer after_cr mode original skip_lf (Some rest) = answer.Resting rest after_cr mode original skip_lf

abbrev pub element_answer : Option OpenElement → Answer
element_answer None = answer.NoElement
element_answer (Some e) = answer.Element e.namespace e.name e.point

abbrev pub yes_or_no : Bool → Answer
yes_or_no true = answer.Yes
yes_or_no false = answer.No

abbrev pub depth_answer : ℕ → Option ℕ → Answer
depth_answer from None = answer.NoDepth
depth_answer from (Some k) = answer.Depth (from + k)

-- what was found stands at that depth
abbrev pub IfSomeIs : ℕ → Option ℕ → ℕ → Type 0
IfSomeIs from None depth = ⊥
IfSomeIs from (Some k) depth = from + k ≡ depth

-- how the entry with this id stands
abbrev pub kind_at : ℕ → List OpenElement → EntryKind
kind_at id stack = if is_some (open_at id stack) then (if is_some (scope_at id stack) then InScope else Hidden) else Closed

abbrev pub kind_of : Option ℕ → List OpenElement → EntryKind
kind_of None stack = Absent
kind_of (Some id) stack = kind_at id stack

-- whether the current node has an entry
abbrev pub top_has_entry : List OpenElement → List FormattingEntry → Bool
top_has_entry [] list = false
top_has_entry (e ∷ es) list = has_entry e.id list

abbrev pub listed_answer : List ℕ → List OpenElement → List FormattingEntry → Answer
listed_answer name stack list = answer.Entry (kind_of (last_named name list) stack) (top_has_entry stack list)

abbrev pub away_or : ℕ → Option ℕ → Answer
away_or from None = answer.Away
away_or from (Some k) = answer.Depth (from + k)

abbrev pub pointer_answer : ℕ → Option ℕ → List OpenElement → Answer
pointer_answer from None stack = answer.Null
pointer_answer from (Some id) stack = away_or from (scope_at id stack)

abbrev pub fact_answer : ControlState → FactKind → Answer
fact_answer s Quirks = yes_or_no s.quirks
fact_answer s LastTag = answer.LastTag (unwrap_or s.lex.machine.last_tag [])

-- the true answer
abbrev pub answer_of : ControlState → Question → Answer
answer_of s ask.Entry = entry_answer s.lex.machine.after_cr s.mode s.original s.skip_lf (rest_of s.lex.machine.state)
answer_of s (ask.Elem depth) = element_answer (slice_get s.stack depth)
answer_of s (ask.Seen depth goals stops) = yes_or_no (seen goals stops (drop depth s.stack))
answer_of s (ask.Reach depth goals stops) = depth_answer depth (reach goals stops (drop depth s.stack))
answer_of s (ask.RunOf depth names) = answer.Count (run_of names (drop depth s.stack))
answer_of s (ask.HasTemplate depth) = yes_or_no (list_any is_template (drop depth s.stack))
answer_of s (ask.ResetFrom depth) = answer.NewMode (reset_mode (is_some s.head) s.templates (drop depth s.stack))
answer_of s (ask.Quiet depth cuts) = yes_or_no (is_quiet (drop depth s.stack) (cleared_by cuts s.formatting))
answer_of s (ask.Listed depth cuts name) = listed_answer name (drop depth s.stack) (cleared_by cuts s.formatting)
answer_of s (ask.Same cuts tag) = answer.Count (min 3 (equals_of tag (cleared_by cuts s.formatting)))
answer_of s (ask.Pointer depth) = pointer_answer depth s.form (drop depth s.stack)
answer_of s (ask.Fact which) = fact_answer s which
answer_of s (ask.Whole depth) = answer.Whole (second_is_body (drop depth s.stack)) s.frameset_ok
