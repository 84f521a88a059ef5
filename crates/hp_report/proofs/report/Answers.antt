use Rattle.std.specs.Prelude.{length}
use Rattle.std.proofs.lemmas.List.FromFn.{length-map-range_with_len}
use Rattle.hp_report.specs.Report.{verdict_of}
use Rattle.hp_report.proofs.report.Goals as goal

pub append_lines-requires : goal.append_lines-requires
append_lines-requires c = rw (c.as_slice.ensures.value, c.in_ok-verdicts.ensures, c.chunks.ensures) (length-map-range_with_len (verdict_of c.args.journal.now) 0 _)
