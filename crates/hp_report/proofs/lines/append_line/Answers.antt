use Rattle.std.proofs.Common.{◌∙◌, ap}
use Rattle.std.proofs.lemmas.Result.{IfOk-at_ok}
use Rattle.hp_report.specs.Report.{chunk_line}
use Rattle.hp_report.proofs.Written.{extended}
use Rattle.hp_report.proofs.lines.append_line.Goals as goal

pub returns : goal.returns
returns c = extended c.extend_from_slice.result c.args.text.now.items c.extend_from_slice.new.self.items c.as_bytes.result.now _ c.extend_from_slice.ensures.items
    (c.as_bytes.ensures.value ∙ IfOk-at_ok _ c.in_ok-line.was c.chunk_line.ensures ∙ ap (λ size. chunk_line c.args.chunk size c.args.verdict) c.size_of.ensures)
