use Rattle.std.proofs.Common.{refl}
use Rattle.std.specs.Fmt.{digits}
use Rattle.hp_report.specs.Report.{chunk_line, counts_text, first_judgement}
use Rattle.hp_report.proofs.reports_by_example.Goals as goal

pub returns : goal.returns
unfolding chunk_line counts_text digits first_judgement
returns c = record {
  empty = refl;
  whole = refl;
  short = refl;
  wrong = refl;
}
