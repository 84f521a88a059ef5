-- How far a parser has come over a text, over whatever is below it (13.2).
use Rattle.std.specs.Prelude.{◌≡◌, ℕ, ◌-◌, ◌<◌, ◌≤◌, ◌^◌, Bool, true, false, List, [], ◌∷◌, ◌++◌, Option, None, Some, Result, Ok, Err, IsTrue}
use Rattle.std.specs.Option.{is_some, unwrap_or}
use Rattle.hp_elements.specs.declared.kinds.Kinds.TheVariants as kinds
use Rattle.hp_elements.specs.declared.token.Token.{Token}
use Rattle.hp_names.specs.BuiltIn.{built_in}
use Rattle.hp_tokens.specs.Advancing.{held, tokens_of}
use Rattle.hp_tokens.specs.Moves.{Emitted, Lexing, makes, move}
use Rattle.hp_tokens.specs.Ranks.{weight}
use Rattle.hp_tokens.specs.Reading.{Unread}
use Rattle.hp_tokens.specs.Rows.{character}
use Rattle.hp_control.specs.declared.edit.Edit.{Edit}
use Rattle.hp_control.specs.declared.question.Answer.{Answer}
use Rattle.hp_control.specs.declared.question.Crossing.{Crossing}
use Rattle.hp_control.specs.declared.question.Question.{Question}
use Rattle.hp_control.specs.Agree.{AllTrue}
use Rattle.hp_control.specs.Faithful.{Split, state_over}
use Rattle.hp_control.specs.Plan.{Heard, Runs, asked_by, end_by, noting}
use Rattle.hp_control.specs.Running.{on_end}
use Rattle.hp_control.specs.States.{ControlState, lex_start}
use Rattle.hp_control.specs.declared.change.Refusal.{Refusal}
use Rattle.hp_control.specs.declared.change.Refusal.TheVariants as refusal
use Rattle.hp_lexer.specs.declared.lexer.Asked.TheVariants as asked
use Rattle.hp_lexer.specs.declared.lexer.Lexer.{Lexer}
use Rattle.hp_lexer.specs.Standing.{PlainStepped, is_answered, load, stands}
use Rattle.hp_lexer.specs.Table.{table}
use Rattle.hp_views.specs.StackPlans.{current_is_plan}
use Rattle.hp_views.specs.View.{split_of}
use Rattle.hp_model.specs.AtOnce.{handle_at_once}
use Rattle.hp_model.specs.Runs.{Parser}
use Rattle.hp_model.specs.Texts.{TakesText, as_run}
use Rattle.hp_runs.specs.Coming.{HasCome, HasEnded, untouched_at_once}
use Rattle.hp_runs.specs.Handling.{left_after, lexer_after, made_after}
use Rattle.hp_runs.specs.Touching.{TouchesFrom}
use Rattle.hp_asked.specs.Right.{RightFrom}
use Rattle.hp_asked.specs.Seeking.{Seeker, seek}
use Rattle.hp_older.specs.Over.{IsOver}
use Rattle.hp_older.specs.Tokens.{MayAllCome}
use Rattle.hp_fragment.specs.Making.{Amounts, SinkKind, kind_of}
use Rattle.hp_fragment.specs.declared.parsing.Parsing.{Parsing}
use Rattle.hp_fragment.specs.declared.sink.Sink.{Sink}

-- a parser, whatever is below it
pub record Stage : Type 0 where
  pub lexer : Lexer
  pub input : Unread
  pub heard : Heard
  pub split : Split
  pub sink : Sink

abbrev pub stage : {B : Type 0} → (B → Heard) → Parsing B → Stage
stage heard p = record { lexer = p.lexer; input = p.input; heard = heard p.view.below; split = split_of p.view; sink = p.sink }

-- the control state over s; where the lexer stands is told once
abbrev pub control_at : ControlState → Stage → ControlState
control_at s p = record (state_over p.split s) { lex = lex_start }

-- A run over a text: what is older than all that is made, the last start tag's name before the text, whether the lexer was told it, how many
-- bytes were read ahead, the parser with the text before it, and what becomes of the edits.
pub record Way : Type 0 where
  pub older : ControlState
  pub name : List ℕ
  pub told : Bool
  pub base : ℕ
  pub from : Parser
  pub kind : SinkKind

-- the lexer was told a name, and knows one; or it wasn't, and the name is that of the older state
abbrev pub IsNamed : Bool → List ℕ → ControlState → Lexer → Type 0
IsNamed true name s l = is_some l.lex.machine.last_tag ≡ true
IsNamed false name s l = name ≡ unwrap_or s.lex.machine.last_tag []

-- that run has come to where the parser stands
pub record HasRead (w : Way) (p : Stage) : Type 0 where
  pub named : IsNamed w.told w.name w.older p.lexer
  pub unpaged : w.told ≡ false → p.split.page ≡ None
  pub over : IsOver w.older p.split
  pub edits : List Edit
  pub comes : HasCome built_in w.name w.base w.older w.from (stands p.lexer p.input) (control_at w.older p) edits
  pub amounts : Amounts w.kind p.sink w.older p.split.edits edits

-- and to the end of its text
pub record HasReadAll (w : Way) (p : Stage) : Type 0 where
  pub named : IsNamed w.told w.name w.older p.lexer
  pub unpaged : w.told ≡ false → p.split.page ≡ None
  pub over : IsOver w.older p.split
  pub edits : List Edit
  pub ended : HasEnded built_in w.name w.older w.from p.lexer (control_at w.older p) edits
  pub amounts : Amounts w.kind p.sink w.older p.split.edits edits

-- where the lexer stands, and what was changed so far over what is below
abbrev pub seeker_of : Stage → Seeker
seeker_of p = record { lexing = stands p.lexer p.input; split = p.split }

-- answers that are right for all that the run over s asks from here on
abbrev pub AreRight : ControlState → Stage → Type 0
AreRight s p = RightFrom built_in p.heard.says s (seeker_of p)

-- Over a state for which the answers are right from there on, these questions were answered truly, and the answers are right from here on.
abbrev pub AsksRightly : Stage → Stage → List Question → Type 0
AsksRightly old new asked = (s : ControlState) → AreRight s old → AllTrue s old.heard.says asked × AreRight s new

-- These questions were asked, and nothing else; and over each older state of which the answers are true the run goes on.
pub record GoesFurther (old new : Stage) : Type 0 where
  pub asked : List Question
  pub noted : new.heard ≡ noting old.heard asked
  pub reads : (w : Way) → AllTrue w.older old.heard.says asked → HasRead w old → HasRead w new
  pub rightly : AsksRightly old new asked
  pub kind : kind_of new.sink ≡ kind_of old.sink

-- the same, to the end of the text
pub record GoesToEnd (old new : Stage) : Type 0 where
  pub asked : List Question
  pub noted : new.heard ≡ noting old.heard asked
  pub reads : (w : Way) → AllTrue w.older old.heard.says asked → HasRead w old → HasReadAll w new
  pub right : (s : ControlState) → AreRight s old → AllTrue s old.heard.says asked
  pub kind : kind_of new.sink ≡ kind_of old.sink

-- These questions were asked, the last of them for a token that touches something older, over each older state of which the answers are
-- true: it began where the lexer rested last. Places of its text count from 2 ^ 32 on.
pub record Crosses (old new : Stage) : Type 0 where
  pub asked : List Question
  pub noted : new.heard ≡ noting old.heard asked
  pub touches : (w : Way) → w.base ≡ 0 → AllTrue w.older old.heard.says asked → HasRead w old → TouchesFrom (table built_in) w.older w.from (new.lexer.rested - 2 ^ 32)
  pub right : (s : ControlState) → AreRight s old → AllTrue s old.heard.says asked

-- want of memory says nothing
abbrev pub IfCrossed : Refusal → Type 0 → Type 0
IfCrossed (refusal.Crossed crossing) fact = fact
IfCrossed refusal.NoMemory fact = Unit {0}

abbrev pub WentOn : Stage → Stage → Bool → Type 0
WentOn old new true = GoesFurther old new
WentOn old new false = GoesToEnd old new

-- the lexer may be called
pub record IsReady (p : Stage) : Type 0 where
  pub names : p.lexer.names ≡ built_in
  pub answered : IsTrue (is_answered p.lexer.asked)
  pub held : held p.lexer.lex ≤ p.input.place

-- the text is used up
pub record IsAtEnd (p : Stage) : Type 0 where
  pub names : p.lexer.names ≡ built_in
  pub asked : p.lexer.asked ≡ asked.Nothing
  pub held : held p.lexer.lex ≤ 2 ^ 32
  pub used : p.input.text ≡ []

abbrev pub load_of : Stage → ℕ
load_of p = load p.lexer p.input

-- a step: the text goes on, and the lexer's load is smaller; or the text is used up
abbrev pub StepsOn : Stage → Stage → Bool → Type 0
StepsOn old new true = IsReady new × (load_of new < load_of old)
StepsOn old new false = IsAtEnd new

-- some ways were gone straight, or none
pub record WentStraight (old new : Stage) : Type 0 where
  pub ready : IsReady new
  pub load : load_of new ≤ load_of old

-- a way that is tried: a step was made; or the lexer's load is no larger
abbrev pub Tried : Stage → Stage → Bool → Type 0
Tried old new true = StepsOn old new true
Tried old new false = WentStraight old new

-- a text at the front was taken whole, and is still to be handled; or there is none, and nothing changed
pub record TextTaken (old new : Stage) (text : List ℕ) : Type 0 where
  pub stepped : PlainStepped old.lexer old.input new.lexer new.input text
  pub held : held new.lexer.lex ≤ new.input.place
  pub names : new.lexer.names ≡ old.lexer.names
  pub same : new ≡ record old { lexer = new.lexer; input = new.input }

abbrev pub TookText : Stage → Stage → Option (List ℕ) → Type 0
TookText old new (Some text) = TextTaken old new text
TookText old new None = new ≡ old

-- the lexer was switched, or wasn't, which makes its weight no larger
pub record IsTurned (old new : Lexer) : Type 0 where
  pub names : new.names ≡ old.names
  pub ahead : new.lex.ahead ≡ old.lex.ahead
  pub weight : (input : Unread) → old.asked ≡ asked.Nothing → weight (stands new input) ≤ weight (stands old input)
  pub asked : new.asked ≡ old.asked
  pub rested : new.rested ≡ old.rested

-- over s these tokens were handled at once, one behind the other, and the lexer was switched behind each that calls for it; nothing older was touched
pub record IsHandled (s : ControlState) (old new : Stage) (tokens : List Token) : Type 0 where
  pub over : IsOver s new.split
  pub unpaged : old.split.page ≡ None → new.split.page ≡ None
  pub lexer : new.lexer ≡ lexer_after handle_at_once (control_at s old) tokens old.lexer
  pub control : control_at s new ≡ left_after handle_at_once (control_at s old) tokens
  pub own : untouched_at_once s (control_at s old) tokens ≡ true
  pub amounts : (kind : SinkKind) (es : List Edit) → Amounts kind old.sink s old.split.edits es → Amounts kind new.sink s new.split.edits (es ++ made_after handle_at_once (control_at s old) tokens)

abbrev pub AsksNothing : Lexer → Type 0
AsksNothing l = l.asked ≡ asked.Nothing

-- an end without the view's edits, which may have gone on
abbrev pub unedited : Result Seeker Crossing → Result Seeker Crossing
unedited end = on_end end (λ k. Ok (record k { split = record k.split { edits = [] } }))

-- by these answers the run asks this for the tokens, and comes to that end, but for the view's edits
pub record Seeks (says : Question → Answer) (from : Seeker) (tokens : List Token) (asked : List Question) (end : Result Seeker Crossing) : Type 0 where
  pub asks : asked ≡ asked_by says (seek tokens from)
  pub ends : unedited (end_by says (seek tokens from)) ≡ unedited end

-- These questions were asked, and over each older state of which the answers are true the tokens were handled. Where the lexer asks
-- nothing, the run asks the same, and comes to where the parser stands.
pub record Handled (old new : Stage) (tokens : List Token) : Type 0 where
  pub input : new.input ≡ old.input
  pub turned : IsTurned old.lexer new.lexer
  pub asked : List Question
  pub noted : new.heard ≡ noting old.heard asked
  pub over : (s : ControlState) → AllTrue s old.heard.says asked → IsOver s old.split → MayAllCome s tokens → IsHandled s old new tokens
  pub sought : AsksNothing old.lexer → Seeks old.heard.says (seeker_of old) tokens asked (Ok (seeker_of new))
  pub kind : kind_of new.sink ≡ kind_of old.sink

-- These questions were asked for the tokens, and over each older state of which the answers are true one of them touches something older.
-- Where the lexer asks nothing, the run asks the same, and crosses.
pub record Touched (old new : Stage) (tokens : List Token) : Type 0 where
  pub asked : List Question
  pub noted : new.heard ≡ noting old.heard asked
  pub rested : new.lexer.rested ≡ old.lexer.rested
  pub over : (s : ControlState) → AllTrue s old.heard.says asked → IsOver s old.split → MayAllCome s tokens → untouched_at_once s (control_at s old) tokens ≡ false
  pub sought : AsksNothing old.lexer → (crossing : Crossing) × Seeks old.heard.says (seeker_of old) tokens asked (Err crossing)

-- A text was handled as one run, and over each older state of which the answers are true it goes into the current node as it comes.
pub record TextHandled (old new : Stage) (text : List ℕ) : Type 0 where
  pub handled : Handled old new (as_run text ∷ [])
  pub takes : (s : ControlState) → AllTrue s old.heard.says handled.asked → IsOver s old.split → TakesText (state_over old.split s)

-- the same from before the question whether the current node is HTML, which it is
abbrev pub HandledBelow : Stage → Stage → List ℕ → Type 0
HandledBelow old new text = (first : Heard) → Runs first old.heard (current_is_plan kinds.AnyHtml old.split) (Ok true) → TextHandled (record old { heard = first }) new text

-- A text was to be handled so, and it touches something older.
pub record TextTouched (old new : Stage) (text : List ℕ) : Type 0 where
  pub touched : Touched old new (as_run text ∷ [])
  pub takes : (s : ControlState) → AllTrue s old.heard.says touched.asked → IsOver s old.split → TakesText (state_over old.split s)

-- the same from before that question
abbrev pub TouchedBelow : Stage → Stage → List ℕ → Type 0
TouchedBelow old new text = (first : Heard) → Runs first old.heard (current_is_plan kinds.AnyHtml old.split) (Ok true) → TextTouched (record old { heard = first }) new text

-- a character comes next
pub record IsAtText (l : Lexing) : Type 0 where
  pub next : Lexing
  pub emitted : List Emitted
  pub code_point : ℕ
  pub makes_it : move (table built_in) l ≡ makes next emitted
  pub is_it : tokens_of emitted ≡ character code_point ∷ []
