-- What the lexer's own functions promise.
use Rattle.std.specs.Prelude.{◌≡◌, ℕ, ◌+◌, ◌≤◌, Bool, true, false, List, [], sum_by, take, drop}
use Rattle.std.specs.Char.{len_utf8}
use Rattle.hp_elements.specs.declared.token.Token.{Token}
use Rattle.hp_names.specs.References.{Reference}
use Rattle.hp_tokens.specs.declared.state.State.{State}
use Rattle.hp_tokens.specs.declared.lexing.LexState.{LexState}
use Rattle.hp_tokens.specs.declared.rows.Turn.{Turn}
use Rattle.hp_tokens.specs.declared.rows.Turn.TheVariants as turns
use Rattle.hp_tokens.specs.Reading.{Unread}
use Rattle.hp_tokens.specs.Moves.{Lexing, needs_more, asks_cdata, asks_last_tag, move}
use Rattle.hp_tokens.specs.Advancing.{held, unread, place_of, lexing, Advances, Stops}
use Rattle.hp_lexer.specs.Table.{table, part_of}

-- n code points were read, and nothing else changed
pub record Passed (n : ℕ) (old : LexState) (old_input : Unread) (new : LexState) (new_input : Unread) : Type 0 where
  pub machine : new.machine ≡ old.machine
  pub text : unread new new_input ≡ drop n (unread old old_input)
  pub place : place_of new new_input ≡ place_of old old_input + sum_by len_utf8 (take n (unread old old_input))
  pub held : held new ≤ new_input.place

-- moves led there, over the parts of the table, and the first of the tokens began at that place
abbrev pub Led : List Reference → LexState → Unread → ℕ → LexState → Unread → List Token → ℕ → Turn → Type 0
Led names old old_input old_rested new new_input tokens rested turns.Emitted = (s : State) × Stops (table names) (part_of s) (lexing new new_input rested)
Led names old old_input old_rested new new_input tokens rested turns.NeedsMore = (tokens ≡ []) × (move (table names) (lexing new new_input rested) ≡ needs_more)
Led names old old_input old_rested new new_input tokens rested turns.AskCdata =
    (tokens ≡ []) × ((foreign : Lexing) × (html : Lexing) × (move (table names) (lexing new new_input rested) ≡ asks_cdata foreign html))
Led names old old_input old_rested new new_input tokens rested turns.AskLastTag = (tokens ≡ []) × (move (table names) (lexing new new_input rested) ≡ asks_last_tag)
Led names old old_input old_rested new new_input tokens rested turns.Moved = ⊥

abbrev pub emits : Turn → Bool
emits turns.Emitted = true
emits _ = false

abbrev pub Ran : List Reference → LexState → Unread → ℕ → LexState → Unread → List Token → ℕ → Turn → Type 0
Ran names old old_input old_rested new new_input tokens rested turn =
    Advances (table names) (lexing old old_input old_rested) [] (lexing new new_input rested) tokens rested (emits turn)
    × Led names old old_input old_rested new new_input tokens rested turn
