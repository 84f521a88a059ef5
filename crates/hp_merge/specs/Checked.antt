-- When a fragment may be joined to a state, and which of the answers that it assumes is the first that isn't the true one.
use Rattle.std.specs.Prelude.{◌≡◌, ℕ, List, Some, slice_get, take}
use Rattle.hp_control.specs.declared.question.Answer.{Answer}
use Rattle.hp_control.specs.declared.question.Kept.{Kept}
use Rattle.hp_control.specs.declared.question.Question.{Question}
use Rattle.hp_control.specs.Holds.{Holds}
use Rattle.hp_control.specs.States.{ControlState}
use Rattle.hp_control.specs.Truth.{answer_of}
use Rattle.hp_pieces.specs.declared.fragment.Fragment.{Fragment}
use Rattle.hp_pieces.specs.declared.fragment.Fragment.TheVariants.{Exact, Guessed}
use Rattle.hp_merge.specs.declared.checking.Checked.{Checked}
use Rattle.hp_merge.specs.declared.checking.Checked.TheVariants as checked
use Rattle.hp_merge.specs.declared.checking.Looked.{Looked}
use Rattle.hp_merge.specs.declared.checking.Looked.TheVariants as looked

-- all before it are true, and it isn't
pub record IsFirstFalse (s : ControlState) (kept : List Kept) (question : Question) (answer : Answer) : Type 0 where
  pub place : ℕ
  pub there : slice_get kept place ≡ Some (record { question = question; answer = answer })
  pub before : Holds (take place kept) s
  pub wrong : answer_of s question ≡ answer → ⊥

-- the same of the pair at this place
pub record IsFirstFalseAt (s : ControlState) (kept : List Kept) (place : ℕ) : Type 0 where
  pub pair : Kept
  pub there : slice_get kept place ≡ Some pair
  pub before : Holds (take place kept) s
  pub wrong : answer_of s pair.question ≡ pair.answer → ⊥

-- what it assumes is true of the state, or it is exact from there
abbrev pub MayJoin : ControlState → Fragment → Type 0
MayJoin s (Exact known) = known.entry ≡ s
MayJoin s (Guessed f) = Holds f.assumptions s

-- what is told of a fragment over the state, with the first false pair
abbrev pub IsChecked : ControlState → Fragment → Checked → Type 0
IsChecked s fragment checked.Holds = MayJoin s fragment
IsChecked s (Guessed f) (checked.Fails question answer) = IsFirstFalse s f.assumptions question.now answer.now
IsChecked s (Exact known) (checked.Fails question answer) = ⊥
IsChecked s (Guessed f) checked.OtherEntry = ⊥
IsChecked s (Exact known) checked.OtherEntry = known.entry ≡ s → ⊥

-- the same, with the place of that pair
abbrev pub IsLooked : ControlState → Fragment → Looked → Type 0
IsLooked s fragment looked.Holds = MayJoin s fragment
IsLooked s (Guessed f) (looked.Fails place) = IsFirstFalseAt s f.assumptions place
IsLooked s (Exact known) (looked.Fails place) = ⊥
IsLooked s (Guessed f) looked.OtherEntry = ⊥
IsLooked s (Exact known) looked.OtherEntry = known.entry ≡ s → ⊥
