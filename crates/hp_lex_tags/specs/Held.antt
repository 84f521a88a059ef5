-- What is held back while a named reference is read, and what is done when its name is decided.
use Rattle.std.specs.Prelude.{◌≡◌, ◌≤◌, ◌++◌, Bool, true, false, List, [], length, drop, Option, None, Some}
use Rattle.hp_elements.specs.declared.token.Token.{Token}
use Rattle.hp_names.specs.References.{Reference}
use Rattle.hp_names.specs.Longest.{is_open, StaysClosed}
use Rattle.hp_names.specs.declared.names.Found.{Found}
use Rattle.hp_tokens.specs.declared.lexing.LexState.{LexState}
use Rattle.hp_tokens.specs.Reading.{Unread}
use Rattle.hp_tokens.specs.Rows.{flushed_tokens}
use Rattle.hp_tokens.specs.Advancing.{unread, SameStand}
use Rattle.hp_lex_tags.specs.Named.{with_found, unfound, gone_back}

-- what was read ahead decides the name, whatever follows; or nothing more is there to read, and it does not
pub record Gathers (names : List Reference) (old : LexState) (old_input : Unread) (new : LexState) (new_input : Unread) (decided : Bool) : Type 0 where
  pub same : SameStand old old_input new new_input
  pub closed : decided ≡ true → StaysClosed names new.ahead
  pub undecided : decided ≡ false → (new_input.text ≡ []) × (is_open names new.ahead ≡ true)

-- the name was decided: what it stands for goes where it goes, and its code points are dropped
abbrev pub Decides : Option Found → LexState → Unread → List Token → LexState → List Token → Type 0
Decides None old input old_tokens new new_tokens =
    (new.machine ≡ unfound old.machine) × (new.ahead ≡ old.ahead) × (new_tokens ≡ old_tokens ++ flushed_tokens old.machine)
Decides (Some f) old input old_tokens new new_tokens =
    (f.length ≤ length old.ahead) × (new.machine ≡ gone_back (with_found f old.machine (unread old input)))
    × (new.ahead ≡ drop f.length old.ahead)
    × (new_tokens ≡ old_tokens ++ flushed_tokens (with_found f old.machine (unread old input)))
