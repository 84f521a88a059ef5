-- Along a run from an older state: what touches something that stood there before, and where the first that does began.
use Rattle.std.specs.Prelude.{◌≡◌, ℕ, Bool, true, false, not, ◌&&◌, List, [], ◌∷◌, ◌++◌}
use Rattle.hp_elements.specs.declared.token.Token.{Token}
use Rattle.hp_tokens.specs.Advancing.{tokens_of}
use Rattle.hp_tokens.specs.Moves.{Emitted, Lexing, Move, Rules, makes, move}
use Rattle.hp_control.specs.declared.edit.Edit.{Edit}
use Rattle.hp_control.specs.Outcome.{touches_any}
use Rattle.hp_control.specs.States.{ControlState}
use Rattle.hp_model.specs.Handling.{handle}
use Rattle.hp_model.specs.Runs.{Parser, Rests, goes, step}
use Rattle.hp_model.specs.Turns.{left_by}

-- handled one behind the other, none of these touches it
abbrev pub untouched : ControlState → ControlState → List Token → Bool
untouched s c [] = true
untouched s c (t ∷ ts) = let h = handle c t in not (touches_any s h.outcome) && untouched s (left_by h) ts

-- nor does what this move emits
abbrev pub is_untouched : ControlState → ControlState → Move → Bool
is_untouched s c (makes l es) = untouched s c (tokens_of es)
is_untouched s c _ = true

-- by these steps the parser gets from here to there, and nothing older is touched
pub data GoesOwn (rules : Rules) (s : ControlState) : Parser → List Edit → Parser → Type 0 where
  here : {p : Parser} → GoesOwn rules s p [] p
  onward : {p q r : Parser} {es fs : List Edit} → step rules p ≡ goes q es → is_untouched s p.control (move rules p.lexing) ≡ true → GoesOwn rules s q fs r → GoesOwn rules s p (es ++ fs) r

abbrev pub touching_here : Bool → Type 0 → Type 0 → Type 0
touching_here true x y = x
touching_here false x y = y

-- handled one behind the other, the first of these that touches something older began there
abbrev pub TouchesAt : ControlState → ControlState → List Emitted → ℕ → Type 0
TouchesAt s c [] place = ⊥
TouchesAt s c (e ∷ es) place = let h = handle c e.token in touching_here (touches_any s h.outcome) (place ≡ e.began) (TouchesAt s (left_by h) es place)

-- along the steps from this parser the first token that touches something older began there
pub record TouchesFrom (rules : Rules) (s : ControlState) (from : Parser) (place : ℕ) : Type 0 where
  pub there : Parser
  pub edits : List Edit
  pub goes : GoesOwn rules s from edits there
  pub next : Lexing
  pub emitted : List Emitted
  pub makes_them : move rules there.lexing ≡ makes next emitted
  pub touches : TouchesAt s there.control emitted place

-- a run along which nothing older is touched
pub record RunsOwn (rules : Rules) (s : ControlState) (from : Parser) : Type 0 where
  pub there : Parser
  pub edits : List Edit
  pub goes : GoesOwn rules s from edits there
  pub rests : Rests (step rules) there
