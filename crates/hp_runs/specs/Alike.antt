-- Lexers that differ in the places that they count, and in nothing else.
use Rattle.std.specs.Prelude.{◌≡◌, ℕ, List}
use Rattle.hp_tokens.specs.Advancing.{tokens_of}
use Rattle.hp_tokens.specs.Moves.{Lexing, Emitted, Move, needs_more, asks_cdata, asks_last_tag, makes, ends}

pub record Alike (l k : Lexing) : Type 0 where
  pub machine : l.machine ≡ k.machine
  pub unread : l.unread ≡ k.unread

-- the same lexer, where places are counted otherwise
abbrev pub moved : ℕ → ℕ → Lexing → Lexing
moved place rested l = record l { place = place; rested = rested }

-- the same move, up to places
abbrev pub SameMove : Move → Move → Type 0
SameMove needs_more other = other ≡ needs_more
SameMove (asks_cdata foreign html) other = (f : Lexing) × (h : Lexing) × (other ≡ asks_cdata f h) × Alike foreign f × Alike html h
SameMove asks_last_tag other = other ≡ asks_last_tag
SameMove (makes l es) other = (k : Lexing) × (fs : List Emitted) × (other ≡ makes k fs) × Alike l k × (tokens_of fs ≡ tokens_of es)
SameMove (ends es) other = (fs : List Emitted) × (other ≡ ends fs) × (tokens_of fs ≡ tokens_of es)
