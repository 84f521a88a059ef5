-- What is held back while a word is read, and what is done when it is decided.
use Rattle.std.specs.Prelude.{◌≡◌, ℕ, ◌≤◌, ◌∷◌, Bool, true, false, List, [], length, drop}
use Rattle.hp_tokens.specs.declared.lexing.LexState.{LexState}
use Rattle.hp_tokens.specs.Reading.{Unread}
use Rattle.hp_tokens.specs.Moves.{Lexing, Move, row_move}
use Rattle.hp_tokens.specs.Advancing.{unread, lexing, SameStand}
use Rattle.hp_lex_markup.specs.declared.words.Word.{Word}
use Rattle.hp_lex_markup.specs.Words.{is_open, count}
use Rattle.hp_lex_markup.specs.Rows.{row}
use Rattle.hp_lex_markup.specs.Markup.{after_word}

-- what was read ahead decides the word, whatever follows; or nothing more is there to read, and it does not
pub record Gathers (old : LexState) (old_input : Unread) (new : LexState) (new_input : Unread) (decided : Bool) : Type 0 where
  pub same : SameStand old old_input new new_input
  pub closed : decided ≡ true → is_open new.machine.state new.ahead ≡ false
  pub undecided : decided ≡ false → (new_input.text ≡ []) × (is_open new.machine.state new.ahead ≡ true)

-- a word that was read ahead was read
pub record PastWord (w : Word) (old new : LexState) : Type 0 where
  pub machine : new.machine ≡ after_word w old.machine
  pub ahead : new.ahead ≡ drop (count w) old.ahead
  pub fits : count w ≤ length old.ahead

-- the move on the code point c, with what is unread behind it, is that of the row
abbrev pub MovesByRow : (Lexing → Move) → LexState → Unread → ℕ → Type 0
MovesByRow next s input c =
    (rested : ℕ) (cs : List ℕ) → unread s input ≡ c ∷ cs → next (lexing s input rested) ≡ row_move row (lexing s input rested) c cs
