-- Reports of short journals.
use Prim.Native.String.{String}
use Rattle.std.specs.Prelude.{◌≡◌, ℕ, false, true, List, [], ◌∷◌, ◌++◌, codes, map}
use Rattle.std.specs.List.{flat_map}
use Rattle.hp_cut.specs.Places.{Cutting}
use Rattle.hp_board.specs.declared.journal.BoardStep.{BoardStep}
use Rattle.hp_board.specs.declared.journal.BoardStep.TheVariants as step
use Rattle.hp_board.specs.declared.journal.Entry.{Entry}
use Rattle.hp_board.specs.declared.journal.Origin.TheVariants as origin
use Rattle.hp_board.specs.declared.kinds.QuestionKind.TheVariants as kind
use Rattle.hp_report.specs.Report.{report_of}

-- lines of text, each ended by a line feed
abbrev pub lines : List String → List ℕ
lines texts = flat_map (λ text. codes text ++ 10 ∷ []) texts

-- the steps of one worker
abbrev pub by_one : List BoardStep → List Entry
by_one steps = map (λ next. record { worker = 0; step = next }) steps

-- the first chunk is run from its known state
abbrev pub first_run : ℕ → List BoardStep
first_run covered = step.Claimed 0 true ∷ step.Posted 0 covered origin.Replayed ∷ step.Kept 0 ∷ []

-- the second chunk is run over a guess that covers so many bytes
abbrev pub guess : ℕ → List BoardStep
guess covered = step.Claimed 1 false ∷ step.Posted 1 covered origin.Guessed ∷ []

-- what is left of the second chunk is run from its known state
abbrev pub rerun : ℕ → List BoardStep
rerun covered = step.Claimed 1 true ∷ step.Posted 1 covered origin.Replayed ∷ step.Kept 1 ∷ []

-- a page of one chunk that is empty
abbrev pub empty_page : List ℕ
empty_page = report_of (record { places = []; text_length = 0 }) (by_one (first_run 0))

-- `<p>one two`, cut at 6
abbrev pub whole_guess : List ℕ
whole_guess = report_of (record { places = 6 ∷ []; text_length = 10 }) (by_one (guess 4 ++ first_run 6 ++ step.Kept 1 ∷ []))

-- `<b><p>x</b>y`, cut at 7, where the guess is right and covers nothing
abbrev pub short_guess : List ℕ
short_guess = report_of (record { places = 7 ∷ []; text_length = 12 }) (by_one (first_run 7 ++ guess 0 ++ step.Repaired 1 0 ∷ rerun 5))

-- the same page, where the guess knows nothing of the formatting list
abbrev pub wrong_guess : List ℕ
wrong_guess = report_of (record { places = 7 ∷ []; text_length = 12 }) (by_one (first_run 7 ++ guess 5 ++ step.RolledBack 1 kind.Listed ∷ rerun 5))

pub record ByExample : Type 0 where
  pub empty : empty_page ≡ lines ("chunk 0: 0 bytes, exact" ∷ "total: 1 chunks, 1 exact, 0 kept, 0 repaired, 0 rolled back" ∷ [])
  pub whole : whole_guess ≡ lines ("chunk 0: 6 bytes, exact" ∷ "chunk 1: 4 bytes, kept" ∷ "total: 2 chunks, 1 exact, 1 kept, 0 repaired, 0 rolled back" ∷ [])
  pub short : short_guess ≡ lines ("chunk 0: 7 bytes, exact" ∷ "chunk 1: 5 bytes, repaired at 0" ∷ "total: 2 chunks, 1 exact, 0 kept, 1 repaired, 0 rolled back" ∷ [])
  pub wrong : wrong_guess ≡ lines ("chunk 0: 7 bytes, exact" ∷ "chunk 1: 5 bytes, rolled back on Listed" ∷ "total: 2 chunks, 1 exact, 0 kept, 0 repaired, 1 rolled back" ∷ [])
