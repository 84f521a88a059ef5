-- Which states the kept answers are true of.
use Rattle.std.specs.Prelude.{◌≡◌, List, All}
use Rattle.hp_control.specs.declared.question.Kept.{Kept}
use Rattle.hp_control.specs.States.{ControlState}
use Rattle.hp_control.specs.Truth.{answer_of}

abbrev pub Holds : List Kept → ControlState → Type 0
Holds kept s = All (λ k. answer_of s k.question ≡ k.answer) kept
