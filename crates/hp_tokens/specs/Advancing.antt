-- Where a lexer stands that has code points read ahead, and what the calls say of it.
use Rattle.std.specs.Prelude.{◌≡◌, ℕ, ◌+◌, ◌-◌, ◌^◌, ◌<◌, ◌≤◌, ◌&&◌, Bool, true, false, List, [], ◌∷◌, ◌++◌, map, length, sum_by, Option, None, Some, IsTrue, ◌==◌, ◌⊎◌}
use Rattle.std.specs.List.{flat_map}
use Rattle.std.specs.Char.{len_utf8}
use Rattle.hp_elements.specs.declared.token.CharClass.{CharClass}
use Rattle.hp_elements.specs.declared.token.Token.{Token}
use Rattle.hp_elements.specs.declared.token.Token.TheVariants as token
use Rattle.hp_tokens.specs.declared.state.State.{State}
use Rattle.hp_tokens.specs.declared.lexing.LexState.{LexState}
use Rattle.hp_tokens.specs.declared.rows.Turn.{Turn}
use Rattle.hp_tokens.specs.declared.rows.Turn.TheVariants as turns
use Rattle.hp_tokens.specs.declared.rows.Step.{Step}
use Rattle.hp_tokens.specs.declared.rows.Step.TheVariants as steps
use Rattle.hp_tokens.specs.declared.rows.EndStep.{EndStep}
use Rattle.hp_tokens.specs.declared.rows.EndStep.TheVariants as end_steps
use Rattle.hp_elements.specs.declared.token.Rest.{Rest}
use Rattle.hp_tokens.specs.Reading.{Unread}
use Rattle.hp_tokens.specs.declared.machine.Machine.{Machine}
use Rattle.hp_tokens.specs.Rows.{Row, resting}
use Rattle.hp_tokens.specs.States.{is_resting}
use Rattle.hp_tokens.specs.Moves.{Lexing, Emitted, Move, Rules, standing, move, needs_more, asks_cdata, asks_last_tag, makes, end_move, ends, row_move, row_end, after_pair}
use Rattle.hp_tokens.specs.Runs.{Leads, Waits}
use Rattle.hp_tokens.specs.Ranks.{weight}
use Rattle.hp_tokens.specs.Groups.{Through, restless, AllBegan, Together}

-- a lexer in a resting state, without a last start tag's name
abbrev pub rest_state : Rest → Bool → LexState
rest_state rest after_cr = record { machine = resting rest after_cr; ahead = [] }

-- how many bytes the code points take that were read ahead
abbrev pub held : LexState → ℕ
held s = sum_by len_utf8 s.ahead

abbrev pub unread : LexState → Unread → List ℕ
unread s input = s.ahead ++ input.text

abbrev pub place_of : LexState → Unread → ℕ
place_of s input = input.place - held s

-- where the lexer stands
abbrev pub lexing : LexState → Unread → ℕ → Lexing
lexing s input rested = standing s.machine (place_of s input) rested (unread s input)

-- the tokens of the table, in which each code point is a token of its own
abbrev pub single : Token → List Token
single (token.Characters class text) = map (λ c. token.Characters class (c ∷ [])) text
single t = t ∷ []

abbrev pub singles : List Token → List Token
singles ts = flat_map single ts

abbrev pub tokens_of : List Emitted → List Token
tokens_of es = map (λ e. e.token) es

-- the first of these began there
abbrev pub Began : List Emitted → ℕ → Type 0
Began [] place = Unit {0}
Began (e ∷ es) place = e.began ≡ place

-- A run of characters is not empty, and one that begins with LF is that LF alone.
abbrev pub IsRunText : List ℕ → Type 0
IsRunText [] = ⊥
IsRunText (c ∷ cs) = c ≡ 10 → cs ≡ []

abbrev pub IsRun : Token → Type 0
IsRun (token.Characters class text) = IsRunText text
IsRun t = Unit {0}

abbrev pub AreRuns : List Token → Type 0
AreRuns [] = Unit {0}
AreRuns (t ∷ ts) = IsRun t × AreRuns ts

-- What was emitted is appended: the tokens of the table, where code points of one class may stand in one run.
pub record Appends (old_tokens : List Token) (es : List Emitted) (new_tokens : List Token) : Type 0 where
  pub more : List Token
  pub appended : new_tokens ≡ old_tokens ++ more
  pub spelled : singles more ≡ tokens_of es
  pub runs : AreRuns more

-- whether something was emitted
abbrev pub Says : List Emitted → Bool → Type 0
Says [] emitted = emitted ≡ false
Says (e ∷ es) emitted = emitted ≡ true

-- What moves led here, and what they emitted was appended. It began where the lexer rested last before it.
pub record Advances (rules : Rules) (old : Lexing) (old_tokens : List Token) (new : Lexing) (new_tokens : List Token) (rested : ℕ) (emitted : Bool) : Type 0 where
  pub es : List Emitted
  pub leads : Leads (move rules) old es new
  pub appends : Appends old_tokens es new_tokens
  pub began : Began es rested
  pub says : Says es emitted

-- One group of tokens was appended. Moves that emit nothing led to a state of this part; a move was made there, and the further ones
-- were made in states of this part in which the lexer doesn't rest. All that they emit began at one place.
pub record OneGroup (next : Lexing → Move) (own : State → Bool) (old : Lexing) (old_tokens : List Token) (new : Lexing) (new_tokens : List Token) (place : ℕ) : Type 0 where
  pub from : Lexing
  pub mid : Lexing
  pub first : List Emitted
  pub rest : List Emitted
  pub quiet : Leads next old [] from
  pub inside : own from.machine.state ≡ true
  pub made : next from ≡ makes mid first
  pub onward : Through next (restless own) mid rest new
  pub appends : Appends old_tokens (first ++ rest) new_tokens
  pub one_place : AllBegan (first ++ rest) place

-- One run of characters was appended as one token. Moves that emit nothing led to a rest in this part; all that were made there on
-- were made in its state, and the lexer rests.
pub record OneRun (next : Lexing → Move) (own : State → Bool) (old : Lexing) (old_tokens : List Token) (new : Lexing) (new_tokens : List Token) : Type 0 where
  pub from : Lexing
  pub es : List Emitted
  pub class : CharClass
  pub text : List ℕ
  pub quiet : Leads next old [] from
  pub inside : own from.machine.state ≡ true
  pub rests : is_resting from.machine.state ≡ true
  pub through : (may : State → Bool) → may from.machine.state ≡ true → Through next may from es new
  pub appends : Appends old_tokens es new_tokens
  pub one : new_tokens ≡ old_tokens ++ token.Characters class text ∷ []
  pub rests_again : is_resting new.machine.state ≡ true

-- All tokens that were appended began at one place, the last rest before them, and no move behind the first was made at a rest; or
-- they are one run of characters.
abbrev pub IsGroup : (Lexing → Move) → (State → Bool) → Lexing → List Token → Lexing → List Token → ℕ → Type 0
IsGroup next own old old_tokens new new_tokens place =
    OneGroup next own old old_tokens new new_tokens place ⊎ OneRun next own old old_tokens new new_tokens

-- after something was emitted: the lexer rests, no move is made, or the state belongs to another crate
pub data Stops (rules : Rules) (here : State → Bool) (l : Lexing) : Type 0 where
  at_rest : is_resting l.machine.state ≡ true → Stops rules here l
  without_move : Waits (move rules) l → Stops rules here l
  elsewhere : here l.machine.state ≡ false → Stops rules here l

-- The promise of `advance`. What it answers says: something was appended, up to a rest; the state belongs to another
-- crate; more input is needed; a question is asked.
abbrev pub Turned : Rules → (State → Bool) → Lexing → List Token → Lexing → List Token → ℕ → Turn → Type 0
Turned rules here old old_tokens new new_tokens rested turns.Emitted =
    Advances rules old old_tokens new new_tokens rested true × Stops rules here new
Turned rules here old old_tokens new new_tokens rested turns.Moved =
    Advances rules old old_tokens new new_tokens rested false × (here new.machine.state ≡ false)
Turned rules here old old_tokens new new_tokens rested turns.NeedsMore =
    Advances rules old old_tokens new new_tokens rested false × (move rules new ≡ needs_more)
Turned rules here old old_tokens new new_tokens rested turns.AskCdata =
    Advances rules old old_tokens new new_tokens rested false × ((foreign : Lexing) × (html : Lexing) × (move rules new ≡ asks_cdata foreign html))
Turned rules here old old_tokens new new_tokens rested turns.AskLastTag =
    Advances rules old old_tokens new new_tokens rested false × (move rules new ≡ asks_last_tag)

-- in the states that have rows, the moves are those of the rows
pub record HasRows (rules : Rules) (has : State → Bool) (row : Machine → Option ℕ → Row) : Type 0 where
  pub on : (l : Lexing) (c : ℕ) (cs : List ℕ) → IsTrue (has l.machine.state) → rules.on l c cs ≡ row_move row l c cs
  pub last : (l : Lexing) (text : List ℕ) → IsTrue (has l.machine.state) → rules.last l text ≡ row_end row l text

-- the same of a move, where a code point is unread
pub record MovesByRows (next : Lexing → Move) (has : State → Bool) (row : Machine → Option ℕ → Row) : Type 0 where
  pub by_row : (l : Lexing) (c : ℕ) (cs : List ℕ) → l.unread ≡ c ∷ cs → (l.machine.after_cr && c == 10) ≡ false → IsTrue (has l.machine.state)
      → next l ≡ row_move row l c cs
  pub by_pair : (l : Lexing) (c : ℕ) (cs : List ℕ) → l.unread ≡ c ∷ cs → (l.machine.after_cr && c == 10) ≡ true → next l ≡ after_pair l cs

-- a move was made, and maybe more, and what they emit was appended
pub record Goes (next : Lexing → Move) (old : Lexing) (old_tokens : List Token) (new : Lexing) (new_tokens : List Token) (emitted : Bool) : Type 0 where
  pub mid : Lexing
  pub first : List Emitted
  pub rest : List Emitted
  pub made : next old ≡ makes mid first
  pub leads : Leads next mid rest new
  pub appends : Appends old_tokens (first ++ rest) new_tokens
  pub began : Began (first ++ rest) old.rested
  pub says : Says (first ++ rest) emitted
  pub smaller : weight new < weight old
  -- all of these moves are made in the state of the first
  pub through : (may : State → Bool) → may old.machine.state ≡ true → Through next may old (first ++ rest) new
  pub together : Together next old (first ++ rest) new appends.more

-- a run was taken, or there is none and nothing changed
abbrev pub Ran : (Lexing → Move) → Lexing → List Token → Lexing → List Token → Bool → Type 0
Ran next old old_tokens new new_tokens true = (emitted : Bool) × Goes next old old_tokens new new_tokens emitted
Ran next old old_tokens new new_tokens false = (new ≡ old) × (new_tokens ≡ old_tokens)

-- the promise of one step: some moves, or none and nothing changed
abbrev pub Stepped : (Lexing → Move) → Lexing → List Token → Lexing → List Token → Step → Type 0
Stepped next old old_tokens new new_tokens (steps.Made emitted) = Goes next old old_tokens new new_tokens emitted
Stepped next old old_tokens new new_tokens steps.NeedsMore = (next old ≡ needs_more) × (new ≡ old) × (new_tokens ≡ old_tokens)
Stepped next old old_tokens new new_tokens steps.AskCdata =
    ((foreign : Lexing) × (html : Lexing) × (next old ≡ asks_cdata foreign html)) × (new ≡ old) × (new_tokens ≡ old_tokens)
Stepped next old old_tokens new new_tokens steps.AskLastTag = (next old ≡ asks_last_tag) × (new ≡ old) × (new_tokens ≡ old_tokens)

-- the promise of a step over any last place of rest
abbrev pub Steps : (Lexing → Move) → LexState → Unread → List Token → LexState → Unread → List Token → Step → Type 0
Steps next old old_input old_tokens new new_input new_tokens step =
    (rested : ℕ) → rested ≡ (lexing old old_input rested).rested
    → Stepped next (lexing old old_input rested) old_tokens (lexing new new_input rested) new_tokens step

-- the promise of reading one code point, over any last place of rest
abbrev pub ReadsOne : (Lexing → Move) → LexState → Unread → List Token → LexState → Unread → List Token → Bool → Type 0
ReadsOne next old old_input old_tokens new new_input new_tokens emitted =
    (rested : ℕ) → rested ≡ (lexing old old_input rested).rested
    → Goes next (lexing old old_input rested) old_tokens (lexing new new_input rested) new_tokens emitted

-- nothing follows
abbrev pub end_of_text : Unread
end_of_text = record { place = 2 ^ 32; text = [] }

-- the promise of one step at the end of input: some moves, or the end, and all was appended
abbrev pub EndStepped : Rules → Lexing → List Token → Lexing → List Token → EndStep → Type 0
EndStepped rules old old_tokens new new_tokens end_steps.Made = (emitted : Bool) × Goes (end_move rules) old old_tokens new new_tokens emitted
EndStepped rules old old_tokens new new_tokens end_steps.Ended = (es : List Emitted) × (end_move rules old ≡ ends es) × Appends old_tokens es new_tokens

abbrev pub EndSteps : Rules → LexState → Unread → List Token → LexState → Unread → List Token → EndStep → Type 0
EndSteps rules old old_input old_tokens new new_input new_tokens step =
    (rested : ℕ) → rested ≡ (lexing old old_input rested).rested
    → EndStepped rules (lexing old old_input rested) old_tokens (lexing new new_input rested) new_tokens step

-- the moves of the end led to the end of input, and all that they emit was appended
pub record Ends (rules : Rules) (old : Lexing) (old_tokens : List Token) (new_tokens : List Token) : Type 0 where
  pub mid : Lexing
  pub first : List Emitted
  pub rest : List Emitted
  pub leads : Leads (end_move rules) old first mid
  pub ended : end_move rules mid ≡ ends rest
  pub appends : Appends old_tokens (first ++ rest) new_tokens

-- the moves of the end led to this machine with these code points unread, and what they emit was appended
pub record Leaves (rules : Rules) (old : Lexing) (old_tokens : List Token) (new : LexState) (new_tokens : List Token) : Type 0 where
  pub there : Lexing
  pub machine : there.machine ≡ new.machine
  pub unread : there.unread ≡ new.ahead
  pub es : List Emitted
  pub leads : Leads (end_move rules) old es there
  pub appends : Appends old_tokens es new_tokens

-- The promise of `at_end`, where the input ends behind what was read ahead: the end of input was appended last; or the
-- state belongs to another crate.
abbrev pub EndTurned : Rules → (State → Bool) → Lexing → List Token → LexState → List Token → Turn → Type 0
EndTurned rules here old old_tokens new new_tokens turns.Emitted = Ends rules old old_tokens new_tokens
EndTurned rules here old old_tokens new new_tokens turns.Moved = Leaves rules old old_tokens new new_tokens × (here new.machine.state ≡ false)
EndTurned rules here old old_tokens new new_tokens _ = ⊥

-- what holds between two steps at the end
pub record AlongEnd (rules : Rules) (old : LexState) (old_tokens : List Token) (new : LexState) (new_input : Unread) (new_tokens : List Token) : Type 0 where
  pub held : held new ≤ new_input.place
  pub ended : new_input.text ≡ []
  pub leads : (rested : ℕ) → (now : ℕ) × (now ≡ (lexing new new_input now).rested) × (es : List Emitted)
      × Leads (end_move rules) (lexing old end_of_text rested) es (lexing new new_input now) × Appends old_tokens es new_tokens

-- what holds between two steps; what was emitted is a group that goes on
pub record Along (rules : Rules) (own : State → Bool) (old : LexState) (old_input : Unread) (old_rested : ℕ) (old_tokens : List Token)
    (new : LexState) (new_input : Unread) (rested : ℕ) (new_tokens : List Token) (emitted : Bool) : Type 0 where
  pub held : held new ≤ new_input.place
  pub settled : rested ≡ (lexing new new_input rested).rested
  pub advances : Advances rules (lexing old old_input old_rested) old_tokens (lexing new new_input rested) new_tokens rested emitted
  pub group : emitted ≡ true → (is_resting new.machine.state ≡ false) × OneGroup (move rules) own (lexing old old_input old_rested) old_tokens (lexing new new_input rested) new_tokens rested

-- the first unread code point is c, and was taken
pub record Takes (old : LexState) (old_input : Unread) (new : LexState) (new_input : Unread) (c : ℕ) : Type 0 where
  pub machine : new.machine ≡ old.machine
  pub text : unread old old_input ≡ c ∷ unread new new_input
  pub place : place_of new new_input ≡ place_of old old_input + len_utf8 c
  pub held : held new ≤ new_input.place

-- the LF of a CR LF pair comes next
abbrev pub pair_next : Bool → Option ℕ → Bool
pair_next after_cr None = false
pair_next after_cr (Some c) = after_cr && c == 10

-- the LF of a CR LF pair was dropped, which is a move by any rows
abbrev pub DropsPair : LexState → Unread → LexState → Unread → Type 0
DropsPair old old_input new new_input =
    (next : Lexing → Move) (has : State → Bool) (row : Machine → Option ℕ → Row) (tokens : List Token) → MovesByRows next has row
    → ReadsOne next old old_input tokens new new_input tokens false

-- the lexer stands where it stood
pub record SameStand (old : LexState) (old_input : Unread) (new : LexState) (new_input : Unread) : Type 0 where
  pub machine : new.machine ≡ old.machine
  pub text : unread new new_input ≡ unread old old_input
  pub place : place_of new new_input ≡ place_of old old_input
  pub held : held new ≤ new_input.place

-- the lexer stands where it stood; one more code point is held back, or there is none
pub record ReadsAhead (old : LexState) (old_input : Unread) (new : LexState) (new_input : Unread) (more : Bool) : Type 0 where
  pub machine : new.machine ≡ old.machine
  pub text : unread new new_input ≡ unread old old_input
  pub place : place_of new new_input ≡ place_of old old_input
  pub held : held new ≤ new_input.place
  pub shorter : more ≡ true → length new_input.text < length old_input.text
  pub one : more ≡ true → length old_input.text ≡ length new_input.text + 1
  pub all : more ≡ false → (new_input.text ≡ []) × (new.ahead ≡ old.ahead)
