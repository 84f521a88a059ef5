-- Which entries a board may write, so that its journal stays fair.
use Rattle.std.specs.Prelude.{◌≡◌, ◌+◌, ◌<◌, ℕ, length}
use Rattle.hp_control.specs.declared.question.Answer.{Answer}
use Rattle.hp_control.specs.declared.question.Question.{Question}
use Rattle.hp_pieces.specs.Texts.{covered_of, text_of}
use Rattle.hp_pieces.specs.declared.fragment.Fragment.{Fragment}
use Rattle.hp_board.specs.declared.journal.BoardStep.{BoardStep}
use Rattle.hp_board.specs.declared.journal.BoardStep.TheVariants as step
use Rattle.hp_board.specs.declared.kinds.QuestionKind.{QuestionKind}
use Rattle.hp_board.specs.declared.slot.Slot.TheVariants as slot
use Rattle.hp_board.specs.Calls.{IsFalseOf}
use Rattle.hp_board.specs.Desk.{Desk, IsKept, entry, origin_in, slot_at}
use Rattle.hp_board.specs.Fair.{IsFairEntry}
use Rattle.hp_board.specs.Machine.{start_of}
use Rattle.hp_board.specs.Origins.{IsToldOf}

-- the step is fair as the next of a board
abbrev pub IsFairOn : Desk → ℕ → BoardStep → Type 0
IsFairOn desk worker next = IsFairEntry desk.text desk.cuts desk.journal (entry worker next)

-- a post, with where the fragment comes from
abbrev pub PostsAreFair : Type 0
PostsAreFair = (desk : Desk) (chunk worker : ℕ) (posted : Fragment) → IsKept desk → IsToldOf posted → IsFairOn desk worker (step.Posted chunk (covered_of posted) (origin_in desk chunk posted))

-- the front chunk's fragment is this one
pub record IsInFront (desk : Desk) (posted : Fragment) : Type 0 where
  pub kept : IsKept desk
  pub within : desk.done < length desk.slots
  pub here : slot_at desk desk.done ≡ slot.Posted posted
  pub told : IsToldOf posted

-- that it is kept whole, where it covers its text
abbrev pub KeepsAreFair : Type 0
KeepsAreFair = (desk : Desk) (posted : Fragment) (worker : ℕ) → IsInFront desk posted → covered_of posted ≡ length (text_of posted) → IsFairOn desk worker (step.Kept desk.done)

-- that it is kept up to a place, where it covers less
abbrev pub RepairsAreFair : Type 0
RepairsAreFair = (desk : Desk) (posted : Fragment) (worker place : ℕ) → IsInFront desk posted → covered_of posted < length (text_of posted) → start_of desk.cuts desk.done + place ≡ desk.place + covered_of posted
    → IsFairOn desk worker (step.Repaired desk.done place)

-- that it is given up, where it assumes what is false of the front
abbrev pub RollbacksAreFair : Type 0
RollbacksAreFair = (desk : Desk) (posted : Fragment) (worker : ℕ) (question : Question) (answer : Answer) (kind : QuestionKind) → IsInFront desk posted → IsFalseOf desk.control posted question answer
    → IsFairOn desk worker (step.RolledBack desk.done kind)
