-- Where a posted fragment comes from, and which entries judge a chunk.
use Rattle.std.specs.Prelude.{◌≡◌, IfSome, ◌==◌, ◌&&◌, ℕ, List, [], ◌∷◌, Bool, false, not, Option, Some, None, if◌then◌else◌, slice_range, take}
use Rattle.std.specs.List.{list_all}
use Rattle.std.specs.Str.{bytes_eq}
use Rattle.hp_names.specs.BuiltIn.{built_in}
use Rattle.hp_predict.specs.Guess.{last_bytes}
use Rattle.hp_pieces.specs.By.{IsBy, before_of, chunk_of}
use Rattle.hp_pieces.specs.declared.by.By.{By}
use Rattle.hp_pieces.specs.declared.fragment.Fragment.{Fragment}
use Rattle.hp_pieces.specs.declared.fragment.Fragment.TheVariants as fragment
use Rattle.hp_board.specs.declared.journal.BoardStep.{BoardStep}
use Rattle.hp_board.specs.declared.journal.BoardStep.TheVariants as step
use Rattle.hp_board.specs.declared.journal.Entry.{Entry}
use Rattle.hp_board.specs.declared.journal.Origin.{Origin}
use Rattle.hp_board.specs.declared.journal.Origin.TheVariants as origin

-- the chunk that a step is about
abbrev pub chunk_of_step : BoardStep → ℕ
chunk_of_step (step.Claimed chunk _) = chunk
chunk_of_step (step.Posted chunk _ _) = chunk
chunk_of_step (step.Kept chunk) = chunk
chunk_of_step (step.Repaired chunk _) = chunk
chunk_of_step (step.RolledBack chunk _) = chunk
chunk_of_step (step.Released chunk) = chunk

-- the step is a judgement of that chunk
abbrev pub judges : ℕ → BoardStep → Bool
judges k (step.Kept chunk) = chunk == k
judges k (step.Repaired chunk _) = chunk == k
judges k (step.RolledBack chunk _) = chunk == k
judges k _ = false

-- no entry judges that chunk
abbrev pub is_unjudged : ℕ → List Entry → Bool
is_unjudged k journal = list_all (λ e. not (judges k e.step)) journal

-- where the last fragment of that chunk came from, after a step
abbrev pub origin_after : ℕ → Option Origin → BoardStep → Option Origin
origin_after k last (step.Posted chunk _ by) = if chunk == k then Some by else last
origin_after k last _ = last

unfoldable pub last_origin_from : ℕ → Option Origin → List Entry → Option Origin
last_origin_from k last [] = last
last_origin_from k last (e ∷ es) = last_origin_from k (origin_after k last e.step) es

-- where the last fragment of that chunk came from
abbrev pub last_origin : ℕ → List Entry → Option Origin
last_origin k journal = last_origin_from k None journal

-- what is known of a fragment by who guessed it
abbrev pub IsToldOf : Fragment → Type 0
IsToldOf (fragment.Exact known) = Unit {0}
IsToldOf (fragment.Guessed guess) = (guess.names ≡ built_in) × IfSome guess.by (IsBy guess)

-- a predictor can't tell the chunk of a guess from this one: the last bytes before the two are the same, and so are the texts
abbrev pub looks_alike : By → List ℕ → List ℕ → Bool
looks_alike by before text = bytes_eq (last_bytes (before_of by)) (last_bytes before) && bytes_eq (chunk_of by) text

abbrev pub origin_by : Option By → List ℕ → List ℕ → Origin
origin_by None before text = origin.Guessed
origin_by (Some by) before text = if looks_alike by before text then origin.GuessedBy by.kind else origin.Guessed

-- where a fragment that is posted for a chunk of that text, behind those bytes, comes from
abbrev pub origin_of : Fragment → List ℕ → List ℕ → Origin
origin_of (fragment.Exact _) before text = origin.Replayed
origin_of (fragment.Guessed guess) before text = origin_by guess.by before text
