-- Main's turns on a board of which nobody has a chunk.
use Rattle.std.specs.Prelude.{◌≡◌, ◌==◌, ℕ, ◌<◌, ◌++◌, ◌∷◌, [], List, All, Bool, true, false, sum_by}
use Rattle.hp_cut.specs.Places.{Cutting}
use Rattle.hp_predict.specs.declared.quiet.GuessKind.{GuessKind}
use Rattle.hp_pieces.specs.declared.fragment.Fragment.{Fragment}
use Rattle.hp_pieces.specs.declared.fragment.Fragment.TheVariants.{Exact, Guessed}
use Rattle.hp_board.specs.Calls.{IsBoardOf, is_claimed}
use Rattle.hp_board.specs.Desk.{Desk, SamePage, slot_at}
use Rattle.hp_board.specs.declared.journal.BoardStep.{BoardStep}
use Rattle.hp_board.specs.declared.journal.BoardStep.TheVariants as step
use Rattle.hp_board.specs.declared.journal.Entry.{Entry}
use Rattle.hp_board.specs.declared.journal.Origin.{Origin}
use Rattle.hp_board.specs.declared.journal.Origin.TheVariants as origin
use Rattle.hp_board.specs.declared.slot.Slot.{Slot}
use Rattle.hp_board.specs.declared.slot.Slot.TheVariants as slot
use Rattle.hp_board.specs.declared.steps.Advance.{Advance}
use Rattle.hp_board.specs.declared.steps.Advance.TheVariants as advance
use Rattle.hp_board.specs.declared.tally.Tally.{Tally}

-- there was nothing to judge
abbrev pub is_idle : Advance → Bool
is_idle advance.Idle = true
is_idle _ = false

-- how many steps a posted fragment may still need: a guess may fail, and be run again
abbrev pub weight_posted : Fragment → ℕ
weight_posted (Guessed f) = 3
weight_posted (Exact known) = 1

-- how many steps a chunk may still need
abbrev pub weight_of : Slot → ℕ
weight_of slot.Unclaimed = 4
weight_of (slot.Claimed w) = 4
weight_of (slot.Posted posted) = weight_posted posted
weight_of slot.Again = 2
weight_of (slot.AgainClaimed w) = 2
weight_of slot.Done = 0

-- how many steps a board may still need
abbrev pub weight : Desk → ℕ
weight desk = sum_by weight_of desk.slots

-- no chunk is claimed
abbrev pub IsFree : Desk → Type 0
IsFree desk = (chunk : ℕ) → is_claimed (slot_at desk chunk) ≡ false

-- it is no guess, or one by a predictor of that kind
abbrev pub IsByKind : GuessKind → Origin → Type 0
IsByKind kind origin.Replayed = Unit {0}
IsByKind kind origin.Guessed = ⊥
IsByKind kind (origin.GuessedBy by) = by ≡ kind

-- if a fragment is posted, it is no guess, or one by a predictor of that kind
abbrev pub PostsByKind : GuessKind → BoardStep → Type 0
PostsByKind kind (step.Posted chunk covered by) = IsByKind kind by
PostsByKind kind _ = Unit {0}

-- each guess of a journal is by a predictor of that kind
abbrev pub AreByKind : GuessKind → List Entry → Type 0
AreByKind kind journal = All (λ e. PostsByKind kind e.step) journal

-- with any others before it, the tally stays one of those of the board
abbrev pub StaysOf : Desk → Tally → Desk → Tally → Type 0
StaysOf old tally new later = (others : List Tally) (text : List ℕ) (cuts : Cutting) → IsBoardOf old text cuts (others ++ tally ∷ []) → IsBoardOf new text cuts (others ++ later ∷ [])

-- main went on with a board of which nobody has a chunk
pub record HasGoneOn (kind : GuessKind) (old : Desk) (tally : Tally) (new : Desk) (later : Tally) : Type 0 where
  pub page : SamePage old new
  pub worker : later.worker ≡ tally.worker
  pub free : IsFree new
  pub stays : StaysOf old tally new later
  pub by : AreByKind kind old.journal → AreByKind kind new.journal
