-- What a row, and each act of it, leaves: the row goes on, it is done, or a token is handled again (13.2.6).
use Rattle.std.specs.Prelude.{ℕ, zero, suc, Bool, true, false, ◌||◌, Option, None, Some}
use Rattle.hp_elements.specs.declared.token.Rest.{Rest}
use Rattle.hp_elements.specs.declared.token.Token.{Token}
use Rattle.hp_control.specs.Outcome.{Outcome, becomes, after}
use Rattle.hp_control.specs.States.{ControlState}

-- what was made of a state; the state that the lexer is switched to, where it is switched; whether parsing stopped
pub record Handled : Type 0 where
  pub outcome : Outcome
  pub switch : Option Rest
  pub stopped : Bool

-- the state that is left
abbrev pub left_by : Handled → ControlState
left_by h = h.outcome.control

abbrev pub plainly : Outcome → Handled
plainly o = record { outcome = o; switch = None; stopped = false }

-- nothing was done
abbrev pub unchanged : ControlState → Handled
unchanged c = plainly (becomes c)

abbrev pub switching : Rest → ControlState → Handled
switching rest c = record { outcome = becomes c; switch = Some rest; stopped = false }

abbrev pub stopping : ControlState → Handled
stopping c = record { outcome = becomes c; switch = None; stopped = true }

abbrev pub later : Option Rest → Option Rest → Option Rest
later first None = first
later first (Some rest) = Some rest

-- the first, then the second
abbrev pub joined : Handled → Handled → Handled
joined h k = record { outcome = after h.outcome k.outcome; switch = later h.switch k.switch; stopped = h.stopped || k.stopped }

pub data Turn : Type 0 where
  goes_on : Handled → Turn
  done : Handled → Turn
  again : Token → Handled → Turn

-- a turn, where this was done before it
abbrev pub before : Handled → Turn → Turn
before h (goes_on k) = goes_on (joined h k)
before h (done k) = done (joined h k)
before h (again token k) = again token (joined h k)

-- the next act, where the row goes on
abbrev pub and_then : Turn → (ControlState → Turn) → Turn
and_then (goes_on h) next = before h (next (left_by h))
and_then (done h) next = done h
and_then (again token h) next = again token h

-- a row that another row uses: where it is done, the other goes on
abbrev pub as_part : Turn → Turn
as_part (goes_on h) = goes_on h
as_part (done h) = goes_on h
as_part (again token h) = again token h

-- what was done by a token's handling, where this was done before it
abbrev pub before_all : Handled → Option Handled → Option Handled
before_all h None = None
before_all h (Some k) = Some (joined h k)

-- what a turn comes to, where next tells what handling a token again does
abbrev pub after_turn : Turn → (Token → ControlState → Option Handled) → Option Handled
after_turn (goes_on h) next = Some h
after_turn (done h) next = Some h
after_turn (again token h) next = before_all h (next token (left_by h))

-- what at most so many turns come to; none where they run out
abbrev pub turns : (Token → ControlState → Turn) → ℕ → Token → ControlState → Option Handled
turns turn zero token c = None
turns turn (suc n) token c = after_turn (turn token c) (turns turn n)
