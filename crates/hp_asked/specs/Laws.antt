-- The laws of right answers.
use Rattle.std.specs.Prelude.{◌≡◌, ℕ, ◌++◌, Bool, true, false, if◌then◌else◌, List, [], ◌∷◌, map, Some, Ok}
use Rattle.hp_elements.specs.declared.kinds.Kinds.TheVariants as kinds
use Rattle.hp_elements.specs.declared.token.Token.{Token}
use Rattle.hp_names.specs.References.{Reference}
use Rattle.hp_tokens.specs.Advancing.{singles, tokens_of}
use Rattle.hp_tokens.specs.Moves.{Emitted, Lexing, asks_cdata, asks_last_tag, move}
use Rattle.hp_tokens.specs.Reading.{Unread}
use Rattle.hp_tokens.specs.Rows.{character}
use Rattle.hp_control.specs.declared.question.Answer.{Answer}
use Rattle.hp_control.specs.declared.question.FactKind.TheVariants.{LastTag}
use Rattle.hp_control.specs.declared.question.Question.{Question}
use Rattle.hp_control.specs.declared.question.Question.TheVariants as ask
use Rattle.hp_control.specs.Agree.{AllTrue}
use Rattle.hp_control.specs.Plan.{asked_by, end_by}
use Rattle.hp_control.specs.States.{ControlState, Fits, IsValid}
use Rattle.hp_control.specs.Truth.{answer_of}
use Rattle.hp_lexer.specs.declared.lexer.Lexer.{Lexer}
use Rattle.hp_lexer.specs.declared.lexer.Step.TheVariants as steps
use Rattle.hp_lexer.specs.Standing.{IsBatch, PlainStepped, Reaches, ReachesCdata, Stepped, TagStepped, stands, stands_answered}
use Rattle.hp_lexer.specs.Table.{table}
use Rattle.hp_views.specs.BeginLaws.{IsResting}
use Rattle.hp_views.specs.SecondPlans.{foreign_now_plan}
use Rattle.hp_views.specs.StackPlans.{current_is_plan}
use Rattle.hp_acts.specs.Plain.{may_take_text}
use Rattle.hp_runs.specs.Closing.{LeadsOn}
use Rattle.hp_asked.specs.Seeking.{AreFilled, Seeker, Spells, at, named_last, name_before, seek}
use Rattle.hp_asked.specs.Right.{IsRight, RightFrom, seeker_at}
use Rattle.hp_asked.specs.Singly.{IsRightSingly}

-- what s itself answers is right for each text behind it
abbrev pub RightByTruth : Type 0
RightByTruth = (names : List Reference) (s : ControlState) (text : List ℕ) → IsRight (answer_of s) names s text

-- what is right for a text is right for its front
abbrev pub RightBefore : Type 0
RightBefore = (says : Question → Answer) (names : List Reference) (s : ControlState) (a b : List ℕ) → IsRight says names s (a ++ b) → IsRight says names s a

-- What is right for all that the run asks of a valid state that fits, a move and a code point at a time, is right in whatever way the text
-- is read: no way of reading asks what that one doesn't.
abbrev pub ReadingsAlike : Type 0
ReadingsAlike = (says : Question → Answer) (names : List Reference) (s : ControlState) (text : List ℕ) → IsValid s → Fits s → IsRightSingly says names s text → IsRight says names s text

-- and it is one of its readings
abbrev pub RightSingly : Type 0
RightSingly = (says : Question → Answer) (names : List Reference) (s : ControlState) (text : List ℕ) → IsRight says names s text → IsRightSingly says names s text

-- the first question is where the text begins; then all that is asked from there on
abbrev pub RightAtStart : Type 0
RightAtStart = (says : Question → Answer) (names : List Reference) (s : ControlState) (text : List ℕ) → IsRight says names s text
    → (answer_of s ask.Entry ≡ says ask.Entry) × (IsResting (says ask.Entry) → RightFrom names says s (seeker_at (says ask.Entry) text))

-- Tokens of the run: what their handling asks by right answers is answered truly, and where it comes to its end, the answers are right from there on.
abbrev pub RightTokens : Type 0
RightTokens = (names : List Reference) (says : Question → Answer) (s : ControlState) (k : Seeker) (l : Lexing) (es : List Emitted) (ts : List Token) → LeadsOn (move (table names)) k.lexing es l → Spells s k.split ts es
    → RightFrom names says s k
    → AllTrue s says (asked_by says (seek ts (at l k))) × ((m : Seeker) → end_by says (seek ts (at l k)) ≡ Ok m → RightFrom names says s m)

-- moves that emit nothing
abbrev pub RightSilence : Type 0
RightSilence = (names : List Reference) (says : Question → Answer) (s : ControlState) (k : Seeker) (l : Lexing) → LeadsOn (move (table names)) k.lexing [] l → RightFrom names says s k → RightFrom names says s (at l k)

-- the question after `<![CDATA[`
abbrev pub RightSection : Type 0
RightSection = (names : List Reference) (says : Question → Answer) (s : ControlState) (k : Seeker) (l foreign html : Lexing) (is_foreign : Bool) → LeadsOn (move (table names)) k.lexing [] l → move (table names) l ≡ asks_cdata foreign html
    → end_by says (foreign_now_plan k.split) ≡ Ok is_foreign → RightFrom names says s k
    → AllTrue s says (asked_by says (foreign_now_plan k.split)) × RightFrom names says s (at (if is_foreign then foreign else html) k)

-- the last start tag's name is asked
abbrev pub RightName : Type 0
RightName = (names : List Reference) (says : Question → Answer) (s : ControlState) (k : Seeker) (l : Lexing) → LeadsOn (move (table names)) k.lexing [] l → move (table names) l ≡ asks_last_tag → RightFrom names says s k
    → AllTrue s says (ask.Fact LastTag ∷ []) × RightFrom names says s (at (named_last (name_before s) l) k)

-- Before a character, where nothing own is open: whether the older current node is HTML is asked first.
abbrev pub RightBeforeText : Type 0
RightBeforeText = (names : List Reference) (says : Question → Answer) (s : ControlState) (k : Seeker) (l : Lexing) (es : List Emitted) (c : ℕ) → may_take_text k.split ≡ true → LeadsOn (move (table names)) k.lexing es l → tokens_of es ≡ character c ∷ []
    → RightFrom names says s k → AllTrue s says (asked_by says (current_is_plan kinds.AnyHtml k.split))

-- What the lexer's calls answer is of the run: the tokens of a step,
abbrev pub TokensLead : Type 0
TokensLead = (old new : Lexer) (old_input new_input : Unread) (began : ℕ) (tokens : List Token) → Stepped old old_input new new_input (steps.Tokens began tokens)
    → IsBatch old.names (stands old old_input) (stands new new_input) tokens new.rested
    → (es : List Emitted) × LeadsOn (move (table old.names)) (stands old old_input) es (stands new new_input) × AreFilled tokens × (singles tokens ≡ tokens_of es)

-- a text,
abbrev pub TextLeads : Type 0
TextLeads = (old new : Lexer) (old_input new_input : Unread) (text : List ℕ) → PlainStepped old old_input new new_input text
    → (es : List Emitted) × LeadsOn (move (table old.names)) (stands old old_input) es (stands new new_input) × (tokens_of es ≡ map character text)

-- a tag,
abbrev pub TagLeads : Type 0
TagLeads = (old new : Lexer) (old_input new_input : Unread) (tag : Token) → TagStepped old old_input new new_input (Some tag)
    → (es : List Emitted) × LeadsOn (move (table old.names)) (stands old old_input) es (stands new new_input) × AreFilled (tag ∷ []) × (singles (tag ∷ []) ≡ tokens_of es)

-- nothing,
abbrev pub SilenceLeads : Type 0
SilenceLeads = (old new : Lexer) (old_input new_input : Unread) → Reaches old old_input new new_input [] false → LeadsOn (move (table old.names)) (stands old old_input) [] (stands new new_input)

-- and the question after `<![CDATA[`.
abbrev pub SectionLeads : Type 0
SectionLeads = (old new : Lexer) (old_input new_input : Unread) → ReachesCdata old old_input new new_input
    → (l : Lexing) × LeadsOn (move (table old.names)) (stands old old_input) [] l × (move (table old.names) l ≡ asks_cdata (stands_answered true new new_input) (stands_answered false new new_input))
