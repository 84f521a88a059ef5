-- The report of a journal: a line for each chunk, by the first judgement of it, and a line of counts.
use Rattle.std.specs.Prelude.{ℕ, zero, suc, ◌+◌, ◌-◌, List, [], ◌∷◌, ◌++◌, Bool, true, false, Option, Some, None, if◌then◌else◌, codes, count_by, decimal, length, map}
use Rattle.std.specs.List.{concat, enumerate_from, flat_map, range_with_len}
use Rattle.hp_cut.specs.Places.{Cutting}
use Rattle.hp_board.specs.Machine.{end_of, start_of}
use Rattle.hp_board.specs.Origins.{judges}
use Rattle.hp_board.specs.declared.journal.BoardStep.{BoardStep}
use Rattle.hp_board.specs.declared.journal.BoardStep.TheVariants as step
use Rattle.hp_board.specs.declared.journal.Entry.{Entry}
use Rattle.hp_board.specs.declared.kinds.QuestionKind.{QuestionKind}
use Rattle.hp_board.specs.declared.kinds.QuestionKind.TheVariants as kind
use Rattle.hp_report.specs.declared.verdict.Verdict.{Verdict}
use Rattle.hp_report.specs.declared.verdict.Verdict.TheVariants as verdict

-- the first step of the journal that judges the chunk
unfoldable pub first_judgement : ℕ → List Entry → Option BoardStep
first_judgement chunk [] = None
first_judgement chunk (e ∷ es) = if judges chunk e.step then Some e.step else first_judgement chunk es

-- what a judgement says of its chunk
abbrev pub judged : Option BoardStep → Verdict
judged (Some (step.Kept _)) = verdict.Kept
judged (Some (step.Repaired _ at)) = verdict.Repaired at
judged (Some (step.RolledBack _ kind)) = verdict.RolledBack kind
judged _ = verdict.NotJudged

-- what became of a chunk: the first is exact, and each other is what the first judgement of it says
abbrev pub verdict_of : List Entry → ℕ → Verdict
verdict_of journal zero = verdict.Exact
verdict_of journal (suc before) = judged (first_judgement (suc before) journal)

-- the name of a kind of question
abbrev pub kind_name : QuestionKind → List ℕ
kind_name kind.Entry = codes "Entry"
kind_name kind.Elem = codes "Elem"
kind_name kind.Seen = codes "Seen"
kind_name kind.Reach = codes "Reach"
kind_name kind.RunOf = codes "RunOf"
kind_name kind.HasTemplate = codes "HasTemplate"
kind_name kind.ResetFrom = codes "ResetFrom"
kind_name kind.Quiet = codes "Quiet"
kind_name kind.Listed = codes "Listed"
kind_name kind.Same = codes "Same"
kind_name kind.Pointer = codes "Pointer"
kind_name kind.Fact = codes "Fact"
kind_name kind.Whole = codes "Whole"

-- a verdict in words
abbrev pub verdict_text : Verdict → List ℕ
verdict_text verdict.Exact = codes "exact"
verdict_text verdict.Kept = codes "kept"
verdict_text (verdict.Repaired at) = codes "repaired at " ++ decimal at
verdict_text (verdict.RolledBack kind) = codes "rolled back on " ++ kind_name kind
verdict_text verdict.NotJudged = codes "not judged"

-- the line of a chunk of so many bytes
unfoldable pub chunk_line : ℕ → ℕ → Verdict → List ℕ
chunk_line chunk size became = concat (codes "chunk " ∷ decimal chunk ∷ codes ": " ∷ decimal size ∷ codes " bytes, " ∷ verdict_text became ∷ codes "\n" ∷ [])

-- how many bytes a chunk has
abbrev pub size_of : Cutting → ℕ → ℕ
size_of cuts chunk = end_of cuts chunk - start_of cuts chunk

-- the line of a chunk, by its number and what became of it
abbrev pub verdict_line : Cutting → ℕ × Verdict → List ℕ
verdict_line cuts (chunk, became) = chunk_line chunk (size_of cuts chunk) became

-- the lines of chunks of which this became
abbrev pub verdict_lines : Cutting → List Verdict → List ℕ
verdict_lines cuts became = flat_map (verdict_line cuts) (enumerate_from 0 became)

abbrev pub is_kept : Verdict → Bool
is_kept verdict.Kept = true
is_kept _ = false

abbrev pub is_repaired : Verdict → Bool
is_repaired (verdict.Repaired _) = true
is_repaired _ = false

abbrev pub is_rolled_back : Verdict → Bool
is_rolled_back (verdict.RolledBack _) = true
is_rolled_back _ = false

-- the numbers of so many chunks: 0, 1, 2 and so on
abbrev pub numbers : ℕ → List ℕ
numbers count = range_with_len 0 count

-- what became of so many chunks, in order
abbrev pub verdicts_of : ℕ → List Entry → List Verdict
verdicts_of count journal = map (verdict_of journal) (numbers count)

-- how many chunks there are, and of how many the guess was kept, repaired and rolled back
unfoldable pub counts_text : ℕ → ℕ → ℕ → ℕ → List ℕ
counts_text chunks kept repaired rolled_back =
    concat (decimal chunks ∷ codes " chunks, 1 exact, " ∷ decimal kept ∷ codes " kept, " ∷ decimal repaired ∷ codes " repaired, " ∷ decimal rolled_back ∷ codes " rolled back\n" ∷ [])

-- the counts of chunks of which this became
abbrev pub counts_of : List Verdict → List ℕ
counts_of became = counts_text (length became) (count_by is_kept became) (count_by is_repaired became) (count_by is_rolled_back became)

-- the line of counts of so many chunks, behind a label
abbrev pub counts_line : List ℕ → ℕ → List Entry → List ℕ
counts_line label count journal = label ++ counts_of (verdicts_of count journal)

-- how many chunks there are
abbrev pub chunk_count : Cutting → ℕ
chunk_count cuts = length cuts.places + 1

-- the report: the line of each chunk, and the line of counts
abbrev pub report_of : Cutting → List Entry → List ℕ
report_of cuts journal = verdict_lines cuts (verdicts_of (chunk_count cuts) journal) ++ counts_line (codes "total: ") (chunk_count cuts) journal
