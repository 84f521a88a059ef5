-- The sequential parser over a text: moves of the lexer and the handling of what they emit, in turn (13.2). Over any rules
-- of the lexer's states; the lexer's crate has those of the standard.
use Rattle.std.specs.Prelude.{◌≡◌, ℕ, if◌then◌else◌, List, [], ◌∷◌, ◌++◌, Option, None, Some}
use Rattle.hp_elements.specs.declared.token.Rest.{Rest}
use Rattle.hp_tokens.specs.Moves.{Lexing, Emitted, Move, needs_more, asks_cdata, asks_last_tag, makes, ends, Rules, move, end_move, standing}
use Rattle.hp_tokens.specs.Runs.{followed_by as more_unread, IsSteady}
use Rattle.hp_tokens.specs.States.{enter, state_of_rest}
use Rattle.hp_control.specs.declared.edit.Edit.{Edit}
use Rattle.hp_control.specs.Composed.{is_foreign_now}
use Rattle.hp_control.specs.States.{ControlState, IsValid, start, lex_start}
use Rattle.hp_control.specs.Tree.{Tree, applied_all, document}
use Rattle.hp_model.specs.Handling.{handle}
use Rattle.hp_model.specs.Turns.{Handled, left_by}
use Rattle.hp_model.specs.Whole.{IsRead}

-- where the lexer stands in a text, and the control state; the lexer's part of this is that of the text's start
pub record Parser : Type 0 where
  pub lexing : Lexing
  pub control : ControlState

-- a switch takes effect before the next move
abbrev pub switched : Option Rest → Lexing → Lexing
switched None l = l
switched (Some rest) l = standing (enter (state_of_rest rest) l.machine) l.place l.rested l.unread

abbrev pub told : Parser → Handled → Parser
told p h = record { lexing = switched h.switch p.lexing; control = left_by h }

-- a parser, and the edits that led to it
pub record Built : Type 0 where
  pub parser : Parser
  pub edits : List Edit

-- what was emitted is handled, token by token
abbrev pub built : Parser → List Emitted → Built
built p [] = record { parser = p; edits = [] }
built p (e ∷ es) =
    let h = handle p.control e.token in
    let rest = built (told p h) es in
    record { parser = rest.parser; edits = h.outcome.edits ++ rest.edits }

abbrev pub at_lexing : Parser → Lexing → Parser
at_lexing p l = record p { lexing = l }

-- a step: nothing more can be done with this text, or a parser with these edits
pub data Step : Type 0 where
  rests : Step
  goes : Parser → List Edit → Step

abbrev pub going : Built → Step
going b = goes b.parser b.edits

-- the lexer's question is answered from the present state. The last start tag's name is always told
abbrev pub step_by : Parser → Move → Step
step_by p needs_more = rests
step_by p (asks_cdata foreign html) = goes (at_lexing p (if is_foreign_now p.control then foreign else html)) []
step_by p asks_last_tag = rests
step_by p (makes l es) = going (built (at_lexing p l) es)
step_by p (ends es) = rests

abbrev pub step : Rules → Parser → Step
step rules p = step_by p (move rules p.lexing)

-- by these steps the parser gets from here to there, with these edits
pub data Goes (next : Parser → Step) : Parser → List Edit → Parser → Type 0 where
  here : {p : Parser} → Goes next p [] p
  onward : {p q r : Parser} {es fs : List Edit} → next p ≡ goes q es → Goes next q fs r → Goes next p (es ++ fs) r

-- no step is made
pub record Rests (next : Parser → Step) (p : Parser) : Type 0 where
  pub no_step : (q : Parser) (es : List Edit) → next p ≡ goes q es → ⊥

-- a run: steps, until none is made
pub record RunsTo (rules : Rules) (old : Parser) (edits : List Edit) (new : Parser) : Type 0 where
  pub goes : Goes (step rules) old edits new
  pub rests : Rests (step rules) new

-- the same parser with more text behind what is unread
abbrev pub followed_by : Parser → List ℕ → Parser
followed_by p text = at_lexing p (more_unread p.lexing text)

-- the run over a text
abbrev pub RunsOver : Rules → Parser → List ℕ → List Edit → Parser → Type 0
RunsOver rules old text edits new = RunsTo rules (followed_by old text) edits new

-- the end of input: the last tokens, and each before them
abbrev pub end_step : Rules → Parser → Step
end_step rules p = step_by p (end_move rules p.lexing)

pub data EndsWith (rules : Rules) : Parser → List Edit → Type 0 where
  last : {p : Parser} {es : List Emitted} → end_move rules p.lexing ≡ ends es → EndsWith rules p (built p es).edits
  before_it : {p q : Parser} {es fs : List Edit} → end_step rules p ≡ goes q es → EndsWith rules q fs → EndsWith rules p (es ++ fs)

-- the parser before the first code point of a page
abbrev pub at_start : Parser
at_start = record { lexing = standing lex_start.machine 0 0 []; control = start }

-- the tree of a page: the sequential parser's
pub record Parses (rules : Rules) (page : List ℕ) (tree : Tree) : Type 0 where
  pub read : Parser
  pub edits : List Edit
  pub at_end : List Edit
  pub runs : RunsOver rules at_start page edits read
  pub ends : EndsWith rules read at_end
  pub builds : tree ≡ applied_all document (edits ++ at_end)

-- The run over two texts in a row is the run over the second from where the first led, with the edits one after the other.
abbrev pub RunsJoin : Type 0
RunsJoin = (rules : Rules) → IsSteady rules → (old mid new : Parser) (a b : List ℕ) (es fs : List Edit)
    → RunsOver rules old a es mid → RunsOver rules mid b fs new → RunsOver rules old (a ++ b) (es ++ fs) new

-- There is one run over a text.
abbrev pub OneRun : Type 0
OneRun = (rules : Rules) (old new other : Parser) (text : List ℕ) (es fs : List Edit)
    → RunsOver rules old text es new → RunsOver rules old text fs other → (es ≡ fs) × (new ≡ other)

-- a page has one tree
abbrev pub OneTree : Type 0
OneTree = (rules : Rules) (page : List ℕ) (tree other : Tree) → Parses rules page tree → Parses rules page other → tree ≡ other

abbrev pub AreRead : List Emitted → Type 0
AreRead [] = Unit {0}
AreRead (e ∷ es) = IsRead e.token × AreRead es

-- rules that emit tokens as the lexer reads them: their start tags are HTML's
pub record ReadsHtml (rules : Rules) : Type 0 where
  pub emits : (l m : Lexing) (es : List Emitted) → move rules l ≡ makes m es → AreRead es

-- from a valid state a run over a text leads to valid ones
abbrev pub RunsStayValid : Type 0
RunsStayValid = (rules : Rules) → ReadsHtml rules → (old new : Parser) (text : List ℕ) (es : List Edit)
    → RunsOver rules old text es new → IsValid old.control → IsValid new.control
