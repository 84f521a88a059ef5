-- The laws of handling over the whole table of rules: the turns of one token end, in a valid state.
use Rattle.std.specs.Prelude.{◌≡◌, IsSome, true}
use Rattle.hp_elements.specs.declared.sets.Namespace.TheVariants.{Html}
use Rattle.hp_elements.specs.declared.token.Token.{Token}
use Rattle.hp_elements.specs.declared.token.Token.TheVariants as token
use Rattle.hp_control.specs.States.{ControlState, IsValid}
use Rattle.hp_model.specs.Finding.{turn_finds}
use Rattle.hp_model.specs.Handling.{all_turns, bound, handle}
use Rattle.hp_model.specs.Rows.{turn}
use Rattle.hp_model.specs.Turns.{Handled, again, joined, left_by, turns}

-- a token as the lexer reads it: its elements are HTML's
abbrev pub IsRead : Token → Type 0
IsRead (token.Start self_closing tag) = tag.namespace ≡ Html
IsRead _ = Unit {0}

-- from a valid state the turns of a token never run out
abbrev pub TurnsEnd : Type 0
TurnsEnd = (t : Token) (c : ControlState) → IsRead t → IsValid c → IsSome (turns turn (bound c) t c)

-- and handling it leaves a valid state
abbrev pub StaysValid : Type 0
StaysValid = (t : Token) (c : ControlState) → IsRead t → IsValid c → IsValid (left_by (handle c t))

-- a token that is handed on is handled from the state that is left
abbrev pub HandedOn : Type 0
HandedOn = (t other : Token) (c : ControlState) (h : Handled) → IsRead t → IsValid c → turn t c ≡ again other h → all_turns c t ≡ joined h (all_turns (left_by h) other)

-- each act of a turn finds what it reads
abbrev pub ActsFind : Type 0
ActsFind = (t : Token) (c : ControlState) → IsRead t → IsValid c → turn_finds t c ≡ true
