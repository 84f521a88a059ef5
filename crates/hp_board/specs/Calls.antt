-- What each call of a board does.
use Rattle.std.specs.Prelude.{◌≡◌, ◌≢◌, ◌==◌, ◌||◌, ◌+◌, ◌<◌, ℕ, zero, suc, List, [], ◌∷◌, ◌++◌, Bool, true, false, Option, Some, None, IfSome, count_by, is_some, length, nat_lt, replicate, slice_get, slice_set}
use Rattle.std.specs.List.{list_all}
use Rattle.hp_text.specs.Page.{text_of as page_text}
use Rattle.hp_control.specs.States.{ControlState, start}
use Rattle.hp_control.specs.Tree.{document}
use Rattle.hp_control.specs.declared.question.Answer.{Answer}
use Rattle.hp_control.specs.declared.question.Question.{Question}
use Rattle.hp_cut.specs.Places.{Cutting}
use Rattle.hp_pieces.specs.Texts.{IsExactFrom, covered_of, text_of}
use Rattle.hp_pieces.specs.declared.fragment.Fragment.{Fragment}
use Rattle.hp_pieces.specs.declared.fragment.Fragment.TheVariants as fragment
use Rattle.hp_merge.specs.Checked.{IsFirstFalse, MayJoin}
use Rattle.hp_merge.specs.Joined.{joined}
use Rattle.hp_board.specs.declared.journal.BoardStep.TheVariants as step
use Rattle.hp_board.specs.declared.journal.Entry.{Entry}
use Rattle.hp_board.specs.declared.journal.Status.{Status}
use Rattle.hp_board.specs.declared.journal.Status.TheVariants as status
use Rattle.hp_board.specs.declared.judging.Look.{Look}
use Rattle.hp_board.specs.declared.judging.Look.TheVariants as look
use Rattle.hp_board.specs.declared.kinds.QuestionKind.{QuestionKind}
use Rattle.hp_board.specs.declared.slot.Slot.{Slot}
use Rattle.hp_board.specs.declared.slot.Slot.TheVariants as slot
use Rattle.hp_board.specs.declared.steps.Advance.{Advance}
use Rattle.hp_board.specs.declared.steps.Advance.TheVariants as advance
use Rattle.hp_board.specs.declared.steps.Claim.{Claim}
use Rattle.hp_board.specs.declared.steps.PostCause.{PostCause}
use Rattle.hp_board.specs.declared.steps.PostCause.TheVariants as cause
use Rattle.hp_board.specs.declared.tally.Tally.{Tally}
use Rattle.hp_board.specs.Desk.{Desk, entry, fore_of, origin_in, put, rest_of, rest_start, slot_at, statuses}
use Rattle.hp_board.specs.Kinds.{kind_of}
use Rattle.hp_board.specs.Origins.{IsToldOf}
use Rattle.hp_board.specs.Machine.{at, end_of, is_again, is_claimed_by, is_next, is_posted, is_unclaimed, none, start_of}

abbrev pub IsGuess : Fragment → Type 0
IsGuess (fragment.Guessed _) = Unit {0}
IsGuess (fragment.Exact _) = ⊥

-- the fragment is of the claim's kind, and where that is from a known state, from this one
abbrev pub StartsAs : ControlState → Status → Fragment → Type 0
StartsAs s (status.AgainClaimed _) posted = IsExactFrom s posted
StartsAs s (status.Claimed _) posted = IsGuess posted
StartsAs s _ _ = ⊥

abbrev pub Starts : Desk → ℕ → Fragment → Type 0
Starts desk chunk posted = StartsAs desk.control (at (statuses desk) chunk) posted

abbrev pub is_yours : Desk → ℕ → ℕ → Bool
is_yours desk worker chunk = is_claimed_by worker (at (statuses desk) chunk)

-- when a post is taken
pub record IsPostable (desk : Desk) (worker chunk : ℕ) (posted : Fragment) : Type 0 where
  pub yours : is_yours desk worker chunk ≡ true
  pub text : text_of posted ≡ rest_of desk chunk
  pub starts : Starts desk chunk posted

-- when a post is refused for a cause; they exclude each other
abbrev pub IsRefused : Desk → ℕ → ℕ → Fragment → PostCause → Type 0
IsRefused desk worker chunk posted cause.NotYours = is_yours desk worker chunk ≡ false
IsRefused desk worker chunk posted cause.OtherText = (is_yours desk worker chunk ≡ true) × (text_of posted ≢ rest_of desk chunk)
IsRefused desk worker chunk posted cause.OtherStart = (is_yours desk worker chunk ≡ true) × (text_of posted ≡ rest_of desk chunk) × (Starts desk chunk posted → ⊥)

-- the board after a post
abbrev pub posted_on : Desk → ℕ → ℕ → Fragment → Desk
posted_on desk worker chunk posted = put desk chunk (slot.Posted posted) (entry worker (step.Posted chunk (covered_of posted) (origin_in desk chunk posted)))

-- the slot that a claimed chunk had before its claim
abbrev pub released_slot : Slot → Option Slot
released_slot (slot.Claimed _) = Some slot.Unclaimed
released_slot (slot.AgainClaimed _) = Some slot.Again
released_slot _ = None

abbrev pub released_by : ℕ → Desk → ℕ → Option Slot → Desk
released_by worker desk chunk None = desk
released_by worker desk chunk (Some before) = put desk chunk before (entry worker (step.Released chunk))

-- a board without the claim of a chunk, if it is claimed
abbrev pub released : ℕ → Desk → ℕ → Desk
released worker desk chunk = released_by worker desk chunk (released_slot (slot_at desk chunk))

-- a board without the claims of the first chunks
unfoldable pub recalled : ℕ → Desk → ℕ → Desk
recalled worker desk zero = desk
recalled worker desk (suc n) = released worker (recalled worker desk n) n

abbrev pub is_claimed : Slot → Bool
is_claimed slot = is_some (released_slot slot)

abbrev pub claimed_slot : ℕ → Bool → Slot
claimed_slot worker true = slot.AgainClaimed worker
claimed_slot worker false = slot.Claimed worker

-- the board after a claim
abbrev pub claimed_on : Desk → ℕ → ℕ → Bool → Desk
claimed_on desk worker chunk again = put desk chunk (claimed_slot worker again) (entry worker (step.Claimed chunk again))

-- what a claim is: the next chunk, what is left of it, and the front's state where the chunk is Again
pub record IsClaim (desk : Desk) (worker : ℕ) (claim : Claim) (new : Desk) : Type 0 where
  pub next : is_next (statuses desk) claim.chunk.number (is_some claim.from) ≡ true
  pub page : page_text claim.chunk.page ≡ desk.text
  pub from : claim.chunk.from ≡ rest_start desk claim.chunk.number
  pub to : claim.chunk.to ≡ end_of desk.cuts claim.chunk.number
  pub state : IfSome claim.from (λ s. s ≡ desk.control)
  pub board : new ≡ claimed_on desk worker claim.chunk.number (is_some claim.from)

-- there is nothing to claim
pub record IsAllClaimed (desk : Desk) : Type 0 where
  pub again : none is_again (statuses desk) ≡ true
  pub unclaimed : none is_unclaimed (statuses desk) ≡ true

-- the board after what a fragment covers was committed
abbrev pub committed : Desk → Fragment → ℕ → Slot → Entry → Desk
committed desk posted later slot e = record (put desk desk.done slot e) {
  done = later;
  place = desk.place + covered_of posted;
  control = (joined (fore_of desk) posted).control;
  tree = (joined (fore_of desk) posted).tree;
}

-- a pair that the fragment assumes is the first that is false of the state
abbrev pub IsFalseOf : ControlState → Fragment → Question → Answer → Type 0
IsFalseOf s (fragment.Guessed guess) question answer = IsFirstFalse s guess.assumptions question answer
IsFalseOf s (fragment.Exact _) question answer = ⊥

-- the fragment assumes this pair at that place
abbrev pub IsAssumedAt : Fragment → ℕ → Question → Answer → Type 0
IsAssumedAt (fragment.Guessed guess) place question answer = slice_get guess.assumptions place ≡ Some (record { question = question; answer = answer })
IsAssumedAt (fragment.Exact _) place question answer = ⊥

-- what the front chunk's fragment assumes is true
abbrev pub MayCommit : Desk → Type 0
MayCommit desk = (posted : Fragment) × (slot_at desk desk.done ≡ slot.Posted posted) × MayJoin desk.control posted

-- or the first pair that isn't is of this kind and stands at that place
abbrev pub MayRollBack : Desk → QuestionKind → ℕ → Type 0
MayRollBack desk kind place = (posted : Fragment) × (question : Question) × (answer : Answer) × (slot_at desk desk.done ≡ slot.Posted posted) × IsFalseOf desk.control posted question answer × (kind ≡ kind_of question) × IsToldOf posted × IsAssumedAt posted place question answer

abbrev pub IsLookedAt : Desk → Look → Type 0
IsLookedAt desk look.Holds = MayCommit desk
IsLookedAt desk (look.Fails kind place) = MayRollBack desk kind place

-- what the judgement of the front chunk's fragment is
abbrev pub IsJudged : Desk → ℕ → Fragment → Desk → Advance → Type 0
IsJudged desk worker posted new advance.Idle = ⊥
IsJudged desk worker posted new (advance.RolledBack question answer) = IsFalseOf desk.control posted question answer × (new ≡ put desk desk.done slot.Again (entry worker (step.RolledBack desk.done (kind_of question))))
IsJudged desk worker posted new advance.Kept = MayJoin desk.control posted × (covered_of posted ≡ length (text_of posted)) × (new ≡ committed desk posted (desk.done + 1) slot.Done (entry worker (step.Kept desk.done)))
IsJudged desk worker posted new (advance.Repaired at) = MayJoin desk.control posted × (covered_of posted < length (text_of posted)) × (start_of desk.cuts desk.done + at ≡ desk.place + covered_of posted) × (new ≡ committed desk posted desk.done slot.Again (entry worker (step.Repaired desk.done at)))

-- what an advance is
abbrev pub IsAdvance : Desk → ℕ → Desk → Advance → Type 0
IsAdvance desk worker new advance.Idle = (is_posted (at (statuses desk) desk.done) ≡ false) × (new ≡ desk)
IsAdvance desk worker new verdict = (posted : Fragment) × (slot_at desk desk.done ≡ slot.Posted posted) × IsJudged desk worker posted new verdict

-- all chunks are done
abbrev pub IsDone : Desk → Type 0
IsDone desk = desk.done ≡ length desk.slots

-- the tallies bear the numbers of all workers and main's, each once
pub record AreNumbered (workers : ℕ) (tallies : List Tally) : Type 0 where
  pub each : (worker : ℕ) → worker < workers → count_by (λ t. t.worker == worker) tallies ≡ 1
  pub main : count_by (λ t. t.worker == 64) tallies ≡ 1
  pub count : length tallies ≡ workers + 1

-- the board is of this text and these cuts, and the tallies are those of its journal
pub record IsBoardOf (desk : Desk) (page : List ℕ) (cutting : Cutting) (tallies : List Tally) : Type 0 where
  pub text : desk.text ≡ page
  pub cuts : desk.cuts ≡ cutting
  pub numbered : AreNumbered desk.workers tallies
  pub borne : list_all (λ e. nat_lt e.worker desk.workers || (e.worker == 64)) desk.journal ≡ true
  pub counted : list_all (λ t. t.entries == count_by (λ e. e.worker == t.worker) desk.journal) tallies ≡ true

-- a board at the start
abbrev pub opened : List ℕ → Cutting → ℕ → Desk
opened text cuts workers = record {
  text = text;
  cuts = cuts;
  workers = workers;
  slots = slice_set (replicate (length cuts.places + 1) slot.Unclaimed) 0 slot.Again;
  journal = [];
  done = 0;
  place = 0;
  control = start;
  tree = document;
}

abbrev pub fresh_tally : ℕ → Tally
fresh_tally worker = record { worker = worker; entries = 0 }

unfoldable pub worker_tallies : ℕ → List Tally
worker_tallies zero = []
worker_tallies (suc n) = worker_tallies n ++ fresh_tally n ∷ []

-- a tally for each worker, and last main's
abbrev pub fresh_tallies : ℕ → List Tally
fresh_tallies workers = worker_tallies workers ++ fresh_tally 64 ∷ []
