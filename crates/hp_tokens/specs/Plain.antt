-- Runs of plain code points: in some state each of them does the same, and the state stays.
use Rattle.std.specs.Prelude.{◌≡◌, ℕ, ◌<◌, ◌==◌, ◌&&◌, not, ◌⊎◌, Bool, true, false, List, [], ◌∷◌, ◌++◌, length, Option, Some, None}
use Rattle.std.specs.Char.{is_ascii_uppercase}
use Rattle.hp_elements.specs.declared.token.CharClass.{CharClass}
use Rattle.hp_elements.specs.declared.token.CharClass.TheVariants.{White, Other}
use Rattle.hp_elements.specs.declared.token.Token.{Token}
use Rattle.hp_elements.specs.declared.token.Token.TheVariants as token
use Rattle.hp_tokens.specs.declared.building.Part.{Part}
use Rattle.hp_tokens.specs.declared.state.State.{State}
use Rattle.hp_tokens.specs.declared.machine.Machine.{Machine}
use Rattle.hp_tokens.specs.declared.lexing.LexState.{LexState}
use Rattle.hp_tokens.specs.declared.rows.Step.TheVariants as steps
use Rattle.hp_tokens.specs.Reading.{Unread, ReadsRun}
use Rattle.hp_tokens.specs.Rows.{Row, is_blank, stay, plus, putting}
use Rattle.hp_tokens.specs.Moves.{Lexing, Move}
use Rattle.hp_tokens.specs.Advancing.{IsRunText, MovesByRows, Steps}

-- the code point is none of these
abbrev pub none_of : List ℕ → ℕ → Bool
none_of [] c = true
none_of (x ∷ xs) c = not (c == x) && none_of xs c

-- the same, test by test
abbrev pub Apart : List ℕ → ℕ → Type 0
Apart [] c = Unit {0}
Apart (x ∷ xs) c = ((c == x) ≡ false) × Apart xs c

-- What ends a run of text: U+0000 and white space, which are in classes of their own, CR, which is read as LF, and what a
-- state's row does not emit: `&` and `<`; `<`; nothing else; `-` and `<`; `]`.
abbrev pub data_stops : List ℕ
data_stops = 0 ∷ 9 ∷ 10 ∷ 12 ∷ 13 ∷ 32 ∷ 38 ∷ 60 ∷ []

abbrev pub raw_stops : List ℕ
raw_stops = 0 ∷ 9 ∷ 10 ∷ 12 ∷ 13 ∷ 32 ∷ 60 ∷ []

abbrev pub plaintext_stops : List ℕ
plaintext_stops = 0 ∷ 9 ∷ 10 ∷ 12 ∷ 13 ∷ 32 ∷ []

abbrev pub escaped_stops : List ℕ
escaped_stops = 0 ∷ 9 ∷ 10 ∷ 12 ∷ 13 ∷ 32 ∷ 45 ∷ 60 ∷ []

-- What ends a text that is emitted as it stands, each code point in its own class: U+0000, CR, and what a state's row does not
-- emit: `&` and `<`; `<`.
abbrev pub whole_data_stops : List ℕ
whole_data_stops = 0 ∷ 13 ∷ 38 ∷ 60 ∷ []

abbrev pub whole_raw_stops : List ℕ
whole_raw_stops = 0 ∷ 13 ∷ 60 ∷ []

abbrev pub cdata_stops : List ℕ
cdata_stops = 0 ∷ 9 ∷ 10 ∷ 12 ∷ 13 ∷ 32 ∷ 93 ∷ []

-- What ends a run that is appended to what is built: U+0000, which is replaced, CR, and what the state's row does not
-- append. In names also white space and upper case, which is lowered.
abbrev pub comment_stops : List ℕ
comment_stops = 0 ∷ 13 ∷ 45 ∷ 60 ∷ []

abbrev pub bogus_comment_stops : List ℕ
bogus_comment_stops = 0 ∷ 13 ∷ 62 ∷ []

abbrev pub double_quoted_stops : List ℕ
double_quoted_stops = 0 ∷ 13 ∷ 34 ∷ 38 ∷ []

abbrev pub single_quoted_stops : List ℕ
single_quoted_stops = 0 ∷ 13 ∷ 38 ∷ 39 ∷ []

abbrev pub unquoted_stops : List ℕ
unquoted_stops = 0 ∷ 9 ∷ 10 ∷ 12 ∷ 13 ∷ 32 ∷ 38 ∷ 62 ∷ []

abbrev pub tag_name_stops : List ℕ
tag_name_stops = 0 ∷ 9 ∷ 10 ∷ 12 ∷ 13 ∷ 32 ∷ 47 ∷ 62 ∷ []

abbrev pub attribute_name_stops : List ℕ
attribute_name_stops = 0 ∷ 9 ∷ 10 ∷ 12 ∷ 13 ∷ 32 ∷ 47 ∷ 61 ∷ 62 ∷ []

abbrev pub in_name : List ℕ → ℕ → Bool
in_name stops c = not (is_ascii_uppercase c) && none_of stops c

-- In this state the row emits each code point that passes, and the state stays.
pub record EmitsPlain (row : Machine → Option ℕ → Row) (passes : ℕ → Bool) (s : State) : Type 0 where
  pub stays : (m : Machine) (c : ℕ) → m.state ≡ s → passes c ≡ true → row m (Some c) ≡ plus c (stay m)

-- In this state the row appends each code point that passes to that part of what is built, and the state stays.
pub record PutsPlain (row : Machine → Option ℕ → Row) (passes : ℕ → Bool) (part : Part) (s : State) : Type 0 where
  pub stays : (m : Machine) (c : ℕ) → m.state ≡ s → passes c ≡ true → row m (Some c) ≡ stay (putting part c m)

-- a run as one token, or it is empty
abbrev pub IsOneToken : CharClass → List ℕ → Option Token → Type 0
IsOneToken class run (Some taken) = (0 < length run) × (taken ≡ token.Characters class run)
IsOneToken class run None = run ≡ []

-- a run of code points of one class was taken, and is that token
pub record TextTaken (passes : ℕ → Bool) (class : CharClass) (old : Unread) (taken : Token) (new : Unread) : Type 0 where
  pub run : List ℕ
  pub reads : ReadsRun passes old run new
  pub some : 0 < length run
  pub lone : IsRunText run
  pub is : taken ≡ token.Characters class run

-- white space was taken, or what passes; or there is no run, and nothing changed
abbrev pub MayTake : (ℕ → Bool) → Unread → Option Token → Unread → Type 0
MayTake passes old (Some taken) new = TextTaken is_blank White old taken new ⊎ TextTaken passes Other old taken new
MayTake passes old None new = new ≡ old

-- the promise of a run of text: moves that emit one token, or nothing changed
abbrev pub TextRan : (State → Bool) → (Machine → Option ℕ → Row) → LexState → Unread → Option Token → Unread → Type 0
TextRan has row s old (Some taken) new =
    (next : Lexing → Move) → MovesByRows next has row → (tokens : List Token) → Steps next s old tokens s new (tokens ++ taken ∷ []) (steps.Made true)
TextRan has row s old None new = new ≡ old

-- the promise of a run that is appended to what is built: moves that emit nothing, or nothing changed
abbrev pub PutRan : (State → Bool) → (Machine → Option ℕ → Row) → LexState → Unread → LexState → Unread → Bool → Type 0
PutRan has row old old_input new new_input true =
    (next : Lexing → Move) → MovesByRows next has row → (tokens : List Token) → Steps next old old_input tokens new new_input tokens (steps.Made false)
PutRan has row old old_input new new_input false = (new ≡ old) × (new_input ≡ old_input)
