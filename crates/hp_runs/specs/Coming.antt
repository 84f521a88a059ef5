-- How far a run has come over an older state, told by where the lexer in code stands, and what its calls do to that (13.2).
use Rattle.std.specs.Prelude.{◌≡◌, ℕ, ◌-◌, ◌≤◌, ◌^◌, ◌&&◌, not, Bool, true, false, List, [], ◌∷◌, ◌++◌, Some}
use Rattle.std.specs.List.{list_all}
use Rattle.hp_elements.specs.declared.token.CharClass.TheVariants.{White}
use Rattle.hp_elements.specs.declared.token.Token.{Token}
use Rattle.hp_elements.specs.declared.token.Token.TheVariants.{Characters}
use Rattle.hp_names.specs.References.{Reference}
use Rattle.hp_tokens.specs.declared.machine.Machine.{Machine}
use Rattle.hp_tokens.specs.Advancing.{AreRuns, held}
use Rattle.hp_tokens.specs.Moves.{Lexing, move, needs_more, standing}
use Rattle.hp_tokens.specs.Reading.{Unread}
use Rattle.hp_tokens.specs.Rows.{is_blank}
use Rattle.hp_control.specs.declared.edit.Edit.{Edit}
use Rattle.hp_control.specs.Composed.{is_foreign_now}
use Rattle.hp_control.specs.Outcome.{touches_any}
use Rattle.hp_control.specs.States.{ControlState, IsValid}
use Rattle.hp_groves.specs.Joining.{JoinTexts}
use Rattle.hp_lexer.specs.declared.lexer.Asked.TheVariants as asked
use Rattle.hp_lexer.specs.declared.lexer.Lexer.{Lexer}
use Rattle.hp_lexer.specs.declared.lexer.Step.TheVariants as steps
use Rattle.hp_lexer.specs.Places.{IsInPiece, told, text_at}
use Rattle.hp_lexer.specs.Standing.{IsBatch, PlainStepped, Reaches, ReachesCdata, Stepped, TagStepped, stands}
use Rattle.hp_lexer.specs.Table.{table}
use Rattle.hp_model.specs.AtOnce.{handle_at_once}
use Rattle.hp_model.specs.Runs.{Parser, followed_by}
use Rattle.hp_model.specs.Texts.{TakesText, as_run}
use Rattle.hp_model.specs.Turns.{left_by}
use Rattle.hp_runs.specs.Filled.{at_filled, filled}
use Rattle.hp_runs.specs.Handling.{left_after, lexer_after, made_after}
use Rattle.hp_runs.specs.Tokens.{AllInside, AllRead}
use Rattle.hp_runs.specs.Touching.{GoesOwn, TouchesFrom}

-- From this parser steps led, along which nothing older than s was touched, with these edits, to this control state, and to where
-- the lexer stands. That lexer may not be told the last start tag's name, and its text begins at the place base.
pub record HasCome (names : List Reference) (name : List ℕ) (base : ℕ) (s : ControlState) (from : Parser) (here : Lexing) (c : ControlState) (edits : List Edit) : Type 0 where
  pub at : Lexing
  pub goes : GoesOwn (table names) s from edits (record { lexing = at; control = c })
  pub follows : IsInPiece base (at_filled name here) at

-- It has come further, to a valid state, with edits that are these but for how texts are joined.
pub record ComesFurther (names : List Reference) (name : List ℕ) (base : ℕ) (s : ControlState) (from : Parser) (here : Lexing) (c : ControlState) (edits made : List Edit) : Type 0 where
  pub more : List Edit
  pub comes : HasCome names name base s from here c (edits ++ more)
  pub same : JoinTexts made more
  pub valid : IsValid c

-- It has come to where the text is used up, and what the lexer has read ahead is all that is unread.
pub record HasEnded (names : List Reference) (name : List ℕ) (s : ControlState) (from : Parser) (lexer : Lexer) (c : ControlState) (edits : List Edit) : Type 0 where
  pub at : Lexing
  pub goes : GoesOwn (table names) s from edits (record { lexing = at; control = c })
  pub machine : at.machine ≡ filled name lexer.lex.machine
  pub unread : at.unread ≡ lexer.lex.ahead
  pub needs : move (table names) at ≡ needs_more

-- handled at once, one behind the other, none of these touches something older
abbrev pub untouched_at_once : ControlState → ControlState → List Token → Bool
untouched_at_once s c [] = true
untouched_at_once s c (t ∷ ts) = let h = handle_at_once c t in not (touches_any s h.outcome) && untouched_at_once s (left_by h) ts

-- tokens of a step are as the lexer reads them, are runs, and aren't the end of input
abbrev pub TokensRead : Type 0
TokensRead = (old new : Lexer) (old_input new_input : Unread) (began : ℕ) (tokens : List Token) → Stepped old old_input new new_input (steps.Tokens began tokens)
    → AllRead tokens × AreRuns tokens × AllInside tokens

-- a run begins
abbrev pub RunBegins : Type 0
RunBegins = (names : List Reference) (name : List ℕ) (base : ℕ) (s : ControlState) (from : Parser) (l : Lexer) (input : Unread) → IsInPiece base (at_filled name (stands l input)) from.lexing
    → HasCome names name base s from (stands l input) from.control []

-- It begins before a text, behind which the lexer in code has all that was read ahead: there the text begins.
abbrev pub TextBegins : Type 0
TextBegins = (names : List Reference) (name : List ℕ) (s c : ControlState) (l : Lexer) (machine : Machine) (text : List ℕ) → l.asked ≡ asked.Nothing → l.rested ≡ 2 ^ 32 → held l.lex ≤ 2 ^ 32 → machine ≡ filled name l.lex.machine
    → HasCome names name (held l.lex) s (followed_by (record { lexing = standing machine 0 0 l.lex.ahead; control = c }) text) (stands l (text_at (2 ^ 32) text)) c []

-- the tokens of an answer are handled at once, and the lexer is switched behind each that calls for it
abbrev pub TokensCome : Type 0
TokensCome = (names : List Reference) (name : List ℕ) (base : ℕ) (s : ControlState) (from : Parser) (c : ControlState) (es : List Edit) (old new : Lexer) (old_input new_input : Unread) (began : ℕ) (tokens : List Token)
    → HasCome names name base s from (stands old old_input) c es → old.names ≡ names → IsValid c → Stepped old old_input new new_input (steps.Tokens began tokens)
    → IsBatch old.names (stands old old_input) (stands new new_input) tokens new.rested → untouched_at_once s c tokens ≡ true
    → ComesFurther names name base s from (stands (lexer_after handle_at_once c tokens new) new_input) (left_after handle_at_once c tokens) es (made_after handle_at_once c tokens)

-- so is a tag
abbrev pub TagComes : Type 0
TagComes = (names : List Reference) (name : List ℕ) (base : ℕ) (s : ControlState) (from : Parser) (c : ControlState) (es : List Edit) (old new : Lexer) (old_input new_input : Unread) (tag : Token)
    → HasCome names name base s from (stands old old_input) c es → old.names ≡ names → IsValid c → TagStepped old old_input new new_input (Some tag) → untouched_at_once s c (tag ∷ []) ≡ true
    → ComesFurther names name base s from (stands (lexer_after handle_at_once c (tag ∷ []) new) new_input) (left_after handle_at_once c (tag ∷ [])) es (made_after handle_at_once c (tag ∷ []))

-- a text that the current node takes as it comes, as one run
abbrev pub TextComes : Type 0
TextComes = (names : List Reference) (name : List ℕ) (base : ℕ) (s : ControlState) (from : Parser) (c : ControlState) (es : List Edit) (old new : Lexer) (old_input new_input : Unread) (text : List ℕ)
    → HasCome names name base s from (stands old old_input) c es → old.names ≡ names → IsValid c → PlainStepped old old_input new new_input text → TakesText c → touches_any s (handle_at_once c (as_run text)).outcome ≡ false
    → ComesFurther names name base s from (stands new new_input) (left_by (handle_at_once c (as_run text))) es (handle_at_once c (as_run text)).outcome.edits

-- white space, as one run
abbrev pub BlanksCome : Type 0
BlanksCome = (names : List Reference) (name : List ℕ) (base : ℕ) (s : ControlState) (from : Parser) (c : ControlState) (es : List Edit) (old new : Lexer) (old_input new_input : Unread) (text : List ℕ)
    → HasCome names name base s from (stands old old_input) c es → old.names ≡ names → IsValid c → PlainStepped old old_input new new_input text → list_all is_blank text ≡ true
    → touches_any s (handle_at_once c (Characters White text)).outcome ≡ false
    → ComesFurther names name base s from (stands new new_input) (left_by (handle_at_once c (Characters White text))) es (handle_at_once c (Characters White text)).outcome.edits

-- moves that emit nothing
abbrev pub SilenceComes : Type 0
SilenceComes = (names : List Reference) (name : List ℕ) (base : ℕ) (s : ControlState) (from : Parser) (c : ControlState) (es : List Edit) (old new : Lexer) (old_input new_input : Unread)
    → HasCome names name base s from (stands old old_input) c es → old.names ≡ names → Reaches old old_input new new_input [] false
    → HasCome names name base s from (stands new new_input) c es

-- the question after `<![CDATA[` is answered from the present state
abbrev pub SectionComes : Type 0
SectionComes = (names : List Reference) (name : List ℕ) (base : ℕ) (s : ControlState) (from : Parser) (c : ControlState) (es : List Edit) (old new : Lexer) (old_input new_input : Unread) (foreign : Bool)
    → HasCome names name base s from (stands old old_input) c es → old.names ≡ names → ReachesCdata old old_input new new_input → foreign ≡ is_foreign_now c
    → HasCome names name base s from (stands (record new { asked = asked.CdataAnswered foreign }) new_input) c es

-- the last start tag's name is told
abbrev pub NameComes : Type 0
NameComes = (names : List Reference) (name : List ℕ) (base : ℕ) (s : ControlState) (from : Parser) (c : ControlState) (es : List Edit) (old new : Lexer) (old_input new_input : Unread)
    → HasCome names name base s from (stands old old_input) c es → old.names ≡ names → Stepped old old_input new new_input steps.AskLastTag
    → HasCome names name base s from (stands (told name new) new_input) c es

-- the text is used up
abbrev pub CutEnds : Type 0
CutEnds = (names : List Reference) (name : List ℕ) (base : ℕ) (s : ControlState) (from : Parser) (c : ControlState) (es : List Edit) (old new : Lexer) (old_input new_input : Unread)
    → HasCome names name base s from (stands old old_input) c es → old.names ≡ names → Stepped old old_input new new_input steps.AtCut
    → HasEnded names name s from new c es

-- Over a text before which nothing was read ahead: where a token of an answer touches something older, the run comes to the first that does,
-- and it began where the lexer rested last before the answer.
abbrev pub TokensStop : Type 0
TokensStop = (names : List Reference) (name : List ℕ) (s : ControlState) (from : Parser) (c : ControlState) (es : List Edit) (old new : Lexer) (old_input new_input : Unread) (began : ℕ) (tokens : List Token)
    → HasCome names name 0 s from (stands old old_input) c es → old.names ≡ names → IsValid c → Stepped old old_input new new_input (steps.Tokens began tokens)
    → IsBatch old.names (stands old old_input) (stands new new_input) tokens new.rested → untouched_at_once s c tokens ≡ false
    → TouchesFrom (table names) s from (new.rested - 2 ^ 32)

abbrev pub TagStops : Type 0
TagStops = (names : List Reference) (name : List ℕ) (s : ControlState) (from : Parser) (c : ControlState) (es : List Edit) (old new : Lexer) (old_input new_input : Unread) (tag : Token)
    → HasCome names name 0 s from (stands old old_input) c es → old.names ≡ names → IsValid c → TagStepped old old_input new new_input (Some tag) → untouched_at_once s c (tag ∷ []) ≡ false
    → TouchesFrom (table names) s from (new.rested - 2 ^ 32)

abbrev pub TextStops : Type 0
TextStops = (names : List Reference) (name : List ℕ) (s : ControlState) (from : Parser) (c : ControlState) (es : List Edit) (old new : Lexer) (old_input new_input : Unread) (text : List ℕ)
    → HasCome names name 0 s from (stands old old_input) c es → old.names ≡ names → IsValid c → PlainStepped old old_input new new_input text → TakesText c → touches_any s (handle_at_once c (as_run text)).outcome ≡ true
    → TouchesFrom (table names) s from (new.rested - 2 ^ 32)

-- no line feed is to be skipped
abbrev pub BlanksStop : Type 0
BlanksStop = (names : List Reference) (name : List ℕ) (s : ControlState) (from : Parser) (c : ControlState) (es : List Edit) (old new : Lexer) (old_input new_input : Unread) (text : List ℕ)
    → HasCome names name 0 s from (stands old old_input) c es → old.names ≡ names → IsValid c → PlainStepped old old_input new new_input text → list_all is_blank text ≡ true → c.skip_lf ≡ false
    → touches_any s (handle_at_once c (Characters White text)).outcome ≡ true
    → TouchesFrom (table names) s from (new.rested - 2 ^ 32)
