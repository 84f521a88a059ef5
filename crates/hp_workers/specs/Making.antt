-- What a worker makes of a claim, and what becomes of it on the board.
use Rattle.std.specs.Prelude.{◌≡◌, ℕ, Bool, true, false, if◌then◌else◌, List, Option, None, Some, IfSome, slice_range}
use Rattle.hp_text.specs.Page.{text_of as page_text}
use Rattle.hp_text.specs.declared.chunks.Chunk.{Chunk}
use Rattle.hp_control.specs.States.{ControlState}
use Rattle.hp_predict.specs.declared.quiet.GuessKind.{GuessKind}
use Rattle.hp_pieces.specs.Texts.{IsExactFrom, text_of}
use Rattle.hp_pieces.specs.declared.fragment.Fragment.{Fragment}
use Rattle.hp_fragment.specs.Guessing.{IsGuessedBy}
use Rattle.hp_board.specs.Calls.{IsPostable, is_yours, posted_on, released}
use Rattle.hp_board.specs.Desk.{Desk}
use Rattle.hp_board.specs.Tallies.{IsRaised}
use Rattle.hp_board.specs.declared.steps.Claim.{Claim}
use Rattle.hp_board.specs.declared.tally.Tally.{Tally}

-- exact from the state where it is known, or else a guess by a predictor of that kind before the chunk
abbrev pub IsMadeFrom : GuessKind → Chunk → Option ControlState → Fragment → Type 0
IsMadeFrom kind chunk (Some state) made = IsExactFrom state made
IsMadeFrom kind chunk None made = IsGuessedBy (record { kind = kind; chunk = chunk }) made

-- what is made of a claim, of the chunk's text
pub record IsMade (kind : GuessKind) (claim : Claim) (made : Fragment) : Type 0 where
  pub text : text_of made ≡ slice_range (page_text claim.chunk.page) claim.chunk.from claim.chunk.to
  pub by : IsMadeFrom kind claim.chunk claim.from made

-- the board without this worker's claim of a chunk, if it has it
abbrev pub given_back : Desk → ℕ → ℕ → Desk
given_back desk worker chunk = if is_yours desk worker chunk then released worker desk chunk else desk

-- what was made is posted where the board takes it, and else the claim is given back
abbrev pub IsHandedIn : Desk → ℕ → ℕ → Option Fragment → Desk → Bool → Type 0
IsHandedIn desk worker chunk None new true = ⊥
IsHandedIn desk worker chunk (Some made) new true = IsPostable desk worker chunk made × (new ≡ posted_on desk worker chunk made)
IsHandedIn desk worker chunk made new false = IfSome made (λ f. IsPostable desk worker chunk f → ⊥) × (new ≡ given_back desk worker chunk)

abbrev pub IsRaisedIf : Bool → Tally → Tally → Type 0
IsRaisedIf true old new = IsRaised old new
IsRaisedIf false old new = new ≡ old

-- the tally counts what was done: a post, or where there was none the end of this worker's claim
abbrev pub IsCountedIn : Desk → Tally → ℕ → Tally → Bool → Type 0
IsCountedIn desk old chunk new true = IsRaised old new
IsCountedIn desk old chunk new false = IsRaisedIf (is_yours desk old.worker chunk) old new
