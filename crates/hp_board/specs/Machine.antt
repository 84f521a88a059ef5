-- The board as a machine: what each entry of a journal needs, and what it gives.
use Rattle.std.specs.Prelude.{slice_range, ◌≡◌, ◌==◌, ◌&&◌, ◌+◌, ℕ, zero, suc, List, [], ◌∷◌, ◌++◌, Bool, true, false, not, Option, Some, None, if◌then◌else◌, replicate, slice_index, slice_index_or, slice_set, take}
use Rattle.std.specs.List.{flat_map, list_all}
use Rattle.std.specs.Option.{option_and_then}
use Rattle.hp_cut.specs.Places.{Cutting, ends}
use Rattle.hp_board.specs.declared.journal.BoardStep.{BoardStep}
use Rattle.hp_board.specs.declared.journal.BoardStep.TheVariants as step
use Rattle.hp_board.specs.declared.journal.Entry.{Entry}
use Rattle.hp_board.specs.declared.journal.Status.{Status}
use Rattle.hp_board.specs.declared.journal.Status.TheVariants as status

abbrev pub is_done : Status → Bool
is_done status.Done = true
is_done _ = false

abbrev pub is_again : Status → Bool
is_again status.Again = true
is_again _ = false

abbrev pub is_unclaimed : Status → Bool
is_unclaimed status.Unclaimed = true
is_unclaimed _ = false

abbrev pub is_posted : Status → Bool
is_posted status.Posted = true
is_posted _ = false

abbrev pub is_claimed_by : ℕ → Status → Bool
is_claimed_by w (status.Claimed v) = v == w
is_claimed_by w (status.AgainClaimed v) = v == w
is_claimed_by w _ = false

-- the status of a chunk; past the last one all is done
abbrev pub at : List Status → ℕ → Status
at ss chunk = slice_index_or ss chunk status.Done

-- the chunk is posted, and each one before it is done
abbrev pub is_judged : List Status → ℕ → Bool
is_judged ss chunk = is_posted (at ss chunk) && list_all is_done (take chunk ss)

-- none of the statuses passes the test
abbrev pub none : (Status → Bool) → List Status → Bool
none p ss = list_all (λ s. not (p s)) ss

-- the chunk's status is the first that passes the test
abbrev pub is_first : (Status → Bool) → List Status → ℕ → Bool
is_first p ss chunk = p (at ss chunk) && none p (take chunk ss)

-- the chunk is the next to be claimed: the one that is Again, or else the first that is Unclaimed
abbrev pub is_next : List Status → ℕ → Bool → Bool
is_next ss chunk true = is_again (at ss chunk)
is_next ss chunk false = none is_again ss && is_first is_unclaimed ss chunk

abbrev pub claimed_status : ℕ → Bool → Status
claimed_status w true = status.AgainClaimed w
claimed_status w false = status.Claimed w

-- these statuses, where the need is met
abbrev pub when : Bool → List Status → Option (List Status)
when need ss = if need then Some ss else None

-- what a claimed chunk was before its claim
abbrev pub unclaimed_of : Status → Option Status
unclaimed_of (status.Claimed _) = Some status.Unclaimed
unclaimed_of (status.AgainClaimed _) = Some status.Again
unclaimed_of _ = None

-- the statuses after a step of a worker, where the step's need is met
abbrev pub stepped : List Status → ℕ → BoardStep → Option (List Status)
stepped ss w (step.Claimed chunk again) = when (is_next ss chunk again) (slice_set ss chunk (claimed_status w again))
stepped ss w (step.Posted chunk _ _) = when (is_claimed_by w (at ss chunk)) (slice_set ss chunk status.Posted)
stepped ss w (step.Kept chunk) = when (is_judged ss chunk) (slice_set ss chunk status.Done)
stepped ss w (step.Repaired chunk _) = when (is_judged ss chunk) (slice_set ss chunk status.Again)
stepped ss w (step.RolledBack chunk _) = when (is_judged ss chunk) (slice_set ss chunk status.Again)
stepped ss w (step.Released chunk) = option_and_then (λ s. Some (slice_set ss chunk s)) (unclaimed_of (at ss chunk))

-- at the start chunk 0 is Again, and all others are Unclaimed
abbrev pub opening : ℕ → List Status
opening count = slice_set (replicate count status.Unclaimed) 0 status.Again

-- the statuses after the entries, where each one's need was met
unfoldable pub replay_from : List Status → List Entry → Option (List Status)
replay_from ss [] = Some ss
replay_from ss (e ∷ es) = option_and_then (λ later. replay_from later es) (stepped ss e.worker e.step)

-- the statuses of so many chunks after a journal
abbrev pub replay : ℕ → List Entry → Option (List Status)
replay count journal = replay_from (opening count) journal

-- where a chunk begins, in bytes
abbrev pub start_of : Cutting → ℕ → ℕ
start_of cuts chunk = slice_index (ends cuts) chunk

-- where a chunk ends, in bytes
abbrev pub end_of : Cutting → ℕ → ℕ
end_of cuts chunk = slice_index (ends cuts) (chunk + 1)

-- the bytes of a chunk
abbrev pub chunk_in : List ℕ → Cutting → ℕ → List ℕ
chunk_in text cuts chunk = slice_range text (start_of cuts chunk) (end_of cuts chunk)

-- the bytes before it
abbrev pub before_in : List ℕ → Cutting → ℕ → List ℕ
before_in text cuts chunk = take (start_of cuts chunk) text

-- up to where the text is committed after a step, in bytes
abbrev pub moved : Cutting → ℕ → BoardStep → ℕ
moved cuts place (step.Kept chunk) = end_of cuts chunk
moved cuts place (step.Repaired chunk at) = start_of cuts chunk + at
moved cuts place _ = place

unfoldable pub place_from : Cutting → ℕ → List Entry → ℕ
place_from cuts place [] = place
place_from cuts place (e ∷ es) = place_from cuts (moved cuts place e.step) es

-- up to where the text is committed after a journal, in bytes
abbrev pub place_of : Cutting → List Entry → ℕ
place_of cuts journal = place_from cuts 0 journal

-- the chunk that a step keeps, if it keeps one
abbrev pub kept_by : BoardStep → List ℕ
kept_by (step.Kept chunk) = chunk ∷ []
kept_by _ = []

-- the kept chunks in order
abbrev pub kept_of : List Entry → List ℕ
kept_of journal = flat_map (λ e. kept_by e.step) journal

-- the numbers 0, 1, 2 and so on below a number
unfoldable pub first_chunks : ℕ → List ℕ
first_chunks zero = []
first_chunks (suc n) = first_chunks n ++ n ∷ []
