-- The places where tokens began, in a text that is read in pieces: what the calls on one piece tell, and what a run over the whole text says.
use Rattle.std.specs.Prelude.{◌≡◌, ℕ, ◌+◌, ◌-◌, ◌≤◌, ◌^◌, List, [], ◌∷◌, ◌++◌, Some, true, false}
use Rattle.std.specs.List.{concat}
use Rattle.hp_elements.specs.declared.token.Rest.{Rest}
use Rattle.hp_elements.specs.declared.token.Token.{Token}
use Rattle.hp_names.specs.References.{Reference}
use Rattle.hp_tokens.specs.Reading.{Unread}
use Rattle.hp_tokens.specs.States.{enter, state_of_rest}
use Rattle.hp_tokens.specs.Moves.{Lexing, Emitted, needs_more, asks_cdata, asks_last_tag, standing, move}
use Rattle.hp_tokens.specs.Runs.{Leads, RunsTo, followed_by}
use Rattle.hp_tokens.specs.Advancing.{held, unread, singles, tokens_of}
use Rattle.hp_lexer.specs.declared.lexer.Asked.TheVariants as asked
use Rattle.hp_lexer.specs.declared.lexer.Lexer.{Lexer}
use Rattle.hp_lexer.specs.declared.lexer.Step.{Step}
use Rattle.hp_lexer.specs.declared.lexer.Step.TheVariants as steps
use Rattle.hp_lexer.specs.Table.{table}
use Rattle.hp_lexer.specs.Standing.{opened, stands, stands_answered, switched, Stepped}

-- The same lexer, in a piece and in the whole text. The piece begins at the place base of the whole text, and its places count
-- from 2 ^ 32 on. The piece knows the last place of rest where that is in it.
pub record IsInPiece (base : ℕ) (l whole : Lexing) : Type 0 where
  pub machine : whole.machine ≡ l.machine
  pub unread : whole.unread ≡ l.unread
  pub place : l.place + base ≡ whole.place + 2 ^ 32
  pub rested : l.rested - 2 ^ 32 ≡ whole.rested - base
  pub behind : whole.rested ≤ whole.place

-- a text that has this much in it
abbrev pub text_at : ℕ → List ℕ → Unread
text_at place text = record { place = place; text = text }

-- the first of these began there, counted from the piece's start; 0 where that was before it
abbrev pub BeganIn : ℕ → List Emitted → ℕ → Type 0
BeganIn base [] began = ⊥
BeganIn base (e ∷ es) began = began ≡ e.began - base

-- what was answered, and what the run over the whole text emits
pub record IsTold (base place : ℕ) (tokens : List Token) (es : List Emitted) : Type 0 where
  pub spelled : singles tokens ≡ tokens_of es
  pub began : BeganIn base es place

-- in the whole text moves that emit this lead to where the piece's lexer is
pub record Reached (names : List Reference) (base : ℕ) (whole : Lexing) (es : List Emitted) (l : Lexing) : Type 0 where
  pub there : Lexing
  pub leads : Leads (move (table names)) whole es there
  pub same : IsInPiece base l there

-- the question after `[CDATA[` is asked in the whole text too, and the piece's lexer is where each answer leads
pub record AsksThere (names : List Reference) (base : ℕ) (whole : Lexing) (new : Lexer) (new_input : Unread) : Type 0 where
  pub there : Lexing
  pub leads : Leads (move (table names)) whole [] there
  pub foreign : Lexing
  pub html : Lexing
  pub asks : move (table names) there ≡ asks_cdata foreign html
  pub section : IsInPiece base (stands_answered true new new_input) foreign
  pub comment : IsInPiece base (stands_answered false new new_input) html

-- the whole text is used up too, and any next piece begins there
pub record CutsThere (names : List Reference) (base : ℕ) (whole : Lexing) (new : Lexer) (new_input : Unread) : Type 0 where
  pub there : Lexing
  pub leads : Leads (move (table names)) whole [] there
  pub needs : move (table names) there ≡ needs_more
  pub next : (start : ℕ) (piece : List ℕ) → start + 2 ^ 32 ≡ base + new_input.place
      → IsInPiece start (stands new (text_at (2 ^ 32) piece)) (followed_by there piece)

-- what a step is in the whole text
abbrev pub PlacedIn : ℕ → Lexing → Lexer → Lexer → Unread → Step → Type 0
PlacedIn base whole old new new_input (steps.Tokens began tokens) =
    (es : List Emitted) × Reached old.names base whole es (stands new new_input) × IsTold base began tokens es
PlacedIn base whole old new new_input steps.AskCdata = AsksThere old.names base whole new new_input
PlacedIn base whole old new new_input steps.AskLastTag =
    (r : Reached old.names base whole [] (stands new new_input)) × (move (table old.names) r.there ≡ asks_last_tag)
PlacedIn base whole old new new_input steps.AtCut = CutsThere old.names base whole new new_input

abbrev pub StepsPlaced : Type 0
StepsPlaced = (base : ℕ) (whole : Lexing) (old new : Lexer) (old_input new_input : Unread) (step : Step) → held new.lex ≤ new_input.place
    → IsInPiece base (stands old old_input) whole → Stepped old old_input new new_input step → PlacedIn base whole old new new_input step

-- a lexer before its first piece, where the text began earlier by what was read ahead
abbrev pub StartsPlaced : Type 0
StartsPlaced = (l : Lexer) (base rested : ℕ) (piece : List ℕ) → l.rested ≡ 2 ^ 32 → held l.lex ≤ 2 ^ 32 → held l.lex ≤ base → rested ≤ base - held l.lex
    → IsInPiece base (stands l (text_at (2 ^ 32) piece)) (standing (opened l.asked l.lex.machine) (base - held l.lex) rested (unread l.lex (text_at (2 ^ 32) piece)))

-- behind the tree builder's switch, and once the last start tag's name is told
abbrev pub SwitchesPlaced : Type 0
SwitchesPlaced = (to : Rest) (l : Lexer) (input : Unread) (base : ℕ) (whole : Lexing) → l.asked ≡ asked.Nothing → IsInPiece base (stands l input) whole
    → IsInPiece base (stands (switched to l) input) (standing (enter (state_of_rest to) whole.machine) whole.place whole.rested whole.unread)

abbrev pub told : List ℕ → Lexer → Lexer
told name l = record l { lex = record l.lex { machine = record l.lex.machine { last_tag = Some name } }; asked = asked.Nothing }

abbrev pub TellsPlaced : Type 0
TellsPlaced = (name : List ℕ) (l : Lexer) (input : Unread) (base : ℕ) (whole : Lexing) → l.asked ≡ asked.LastTag → IsInPiece base (stands l input) whole
    → IsInPiece base (stands (told name l) input) (record whole { machine = record whole.machine { last_tag = Some name } })

-- what calls answered: tokens, the place that was told, and where the piece of that call begins
pub record Answer : Type 0 where
  pub base : ℕ
  pub began : ℕ
  pub tokens : List Token

-- calls of `next` on a text and the pieces behind it, up to the last one's end
pub data Calls : Lexer → Unread → ℕ → List (List ℕ) → List Answer → Type 0 where
  at_end : {old new : Lexer} {old_input new_input : Unread} {base : ℕ} → held new.lex ≤ new_input.place
      → Stepped old old_input new new_input steps.AtCut → Calls old old_input base [] []
  goes_on : {old new : Lexer} {old_input new_input : Unread} {base began : ℕ} {tokens : List Token} {pieces : List (List ℕ)} {answers : List Answer}
      → held new.lex ≤ new_input.place → new.names ≡ old.names → Stepped old old_input new new_input (steps.Tokens began tokens)
      → Calls new new_input base pieces answers → Calls old old_input base pieces (record { base = base; began = began; tokens = tokens } ∷ answers)
  at_cut : {old new : Lexer} {old_input new_input : Unread} {base start : ℕ} {piece : List ℕ} {pieces : List (List ℕ)} {answers : List Answer}
      → held new.lex ≤ new_input.place → new.names ≡ old.names → Stepped old old_input new new_input steps.AtCut → start + 2 ^ 32 ≡ base + new_input.place
      → Calls new (text_at (2 ^ 32) piece) start pieces answers → Calls old old_input base (piece ∷ pieces) answers

abbrev pub AreTold : List Answer → List Emitted → Type 0
AreTold [] es = es ≡ []
AreTold (a ∷ answers) es =
    (first : List Emitted) × (rest : List Emitted) × (es ≡ first ++ rest) × IsTold a.base a.began a.tokens first × AreTold answers rest

-- However a text is cut into pieces, what the calls answer on them is what the run over the whole text emits, with its places.
abbrev pub CallsRun : Type 0
CallsRun = (old : Lexer) (input : Unread) (base : ℕ) (whole : Lexing) (pieces : List (List ℕ)) (answers : List Answer)
    → IsInPiece base (stands old input) whole → Calls old input base pieces answers
    → (es : List Emitted) × (new : Lexing) × RunsTo (table old.names) (followed_by whole (concat pieces)) es new × AreTold answers es
