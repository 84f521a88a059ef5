-- What one step adds to what is known of the chunks.
use Rattle.std.specs.Prelude.{ℕ, List, map, slice_set}
use Rattle.hp_board.specs.declared.journal.BoardStep.{BoardStep}
use Rattle.hp_board.specs.declared.journal.BoardStep.TheVariants as step
use Rattle.hp_board.specs.declared.journal.Entry.{Entry}
use Rattle.hp_report.specs.declared.verdict.Verdict.{Verdict}
use Rattle.hp_report.specs.declared.verdict.Verdict.TheVariants as verdict
use Rattle.hp_report.specs.Report.{first_judgement, judged, numbers}

-- the verdicts, with what a step says of the chunk that it judges
abbrev pub noted : List Verdict → BoardStep → List Verdict
noted verdicts (step.Kept chunk) = slice_set verdicts chunk verdict.Kept
noted verdicts (step.Repaired chunk at) = slice_set verdicts chunk (verdict.Repaired at)
noted verdicts (step.RolledBack chunk kind) = slice_set verdicts chunk (verdict.RolledBack kind)
noted verdicts _ = verdicts

-- what the first judgements of so many chunks say, also of the first chunk
abbrev pub first_said : ℕ → List Entry → List Verdict
first_said count journal = map (λ chunk. judged (first_judgement chunk journal)) (numbers count)
