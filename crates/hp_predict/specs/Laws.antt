-- What holds of each guessed state.
use Rattle.std.specs.Prelude.{◌≡◌, ℕ, ◌+◌, ◌^◌, ◌≤◌, length, Some}
use Rattle.std.specs.Option.{is_some}
use Rattle.std.specs.Prelude.{true}
use Rattle.hp_control.specs.States.{ControlState, IsValid, Fits}
use Rattle.hp_control.specs.Truth.{rest_of}

-- it is valid, the lexer is at rest, the head pointer is the number after its elements, and with a chunk of a page that is read it can be counted
pub record IsGuess (from to : ℕ) (s : ControlState) : Type 0 where
  pub valid : IsValid s
  pub rests : is_some (rest_of s.lex.machine.state) ≡ true
  pub head : s.head ≡ Some (length s.stack + 1)
  pub next : s.next ≡ length s.stack + 2
  pub fits : to ≤ from + 2 ^ 24 → Fits s
