-- Runs of moves, over a text in any pieces.
use Rattle.std.specs.Prelude.{◌≡◌, ℕ, List, [], ◌∷◌, ◌++◌}
use Rattle.std.specs.List.{concat}
use Rattle.hp_tokens.specs.Moves.{Lexing, Emitted, Move, needs_more, asks_cdata, asks_last_tag, makes, ends, Rules, move}

-- by these moves the lexer gets from here to there, and they emit these
pub data Leads (next : Lexing → Move) : Lexing → List Emitted → Lexing → Type 0 where
  here : {l : Lexing} → Leads next l [] l
  onward : {l m k : Lexing} {es fs : List Emitted} → next l ≡ makes m es → Leads next m fs k → Leads next l (es ++ fs) k

-- no move is made: more input is needed, a question is asked, or the input ended
pub record Waits (next : Lexing → Move) (l : Lexing) : Type 0 where
  pub no_move : (m : Lexing) (es : List Emitted) → next l ≡ makes m es → ⊥

-- a run: moves, until none is made
pub record RunsTo (rules : Rules) (old : Lexing) (emitted : List Emitted) (new : Lexing) : Type 0 where
  pub leads : Leads (move rules) old emitted new
  pub waits : Waits (move rules) new

-- the same lexer with more text behind what is unread
abbrev pub followed_by : Lexing → List ℕ → Lexing
followed_by l text = record l { unread = l.unread ++ text }

-- a run over each piece of a text in turn
abbrev pub RunsOver : Rules → Lexing → List (List ℕ) → List Emitted → Lexing → Type 0
RunsOver rules old [] emitted new = (emitted ≡ []) × (new ≡ old)
RunsOver rules old (piece ∷ pieces) emitted new =
    (mid : Lexing) × (first : List Emitted) × (rest : List Emitted)
    × RunsTo rules (followed_by old piece) first mid × RunsOver rules mid pieces rest new × (emitted ≡ first ++ rest)

-- A move that is made stays made when more text follows; a question stays asked.
abbrev pub Stays : Move → Move → List ℕ → Type 0
Stays needs_more later text = Unit {0}
Stays (asks_cdata foreign html) later text = later ≡ asks_cdata (followed_by foreign text) (followed_by html text)
Stays asks_last_tag later text = later ≡ asks_last_tag
Stays (makes l es) later text = later ≡ makes (followed_by l text) es
Stays (ends es) later text = Unit {0}

-- rules whose moves stay made
pub record IsSteady (rules : Rules) : Type 0 where
  pub stays : (l : Lexing) (c : ℕ) (cs text : List ℕ) → Stays (rules.on l c cs) (rules.on (followed_by l text) c (cs ++ text)) text

-- However a text is cut into pieces, the tokens, their places and the final state are the same.
abbrev pub AnyPieces : Rules → Type 0
AnyPieces rules = (old new other : Lexing) (pieces others : List (List ℕ)) (emitted emitted_other : List Emitted)
    → Waits (move rules) old → RunsOver rules old pieces emitted new → RunsOver rules old others emitted_other other
    → concat pieces ≡ concat others → (emitted ≡ emitted_other) × (new ≡ other)

-- the same for all rules whose moves stay made
abbrev pub AnyPiecesAnyRules : Type 0
AnyPiecesAnyRules = (rules : Rules) → IsSteady rules → AnyPieces rules

-- each move of some rules is one of the others
pub record IsWithin (rules others : Rules) : Type 0 where
  pub moves : (l m : Lexing) (es : List Emitted) → move rules l ≡ makes m es → move others l ≡ makes m es
