use Rattle.std.proofs.Common.{arith}
use Rattle.hp_report.specs.Report.{verdict_line}
use Rattle.hp_report.specs.declared.verdict.Verdict.TheVariants.{Exact}
use Rattle.hp_report.proofs.Enumerated.{all_taken, one_more}
use Rattle.hp_report.proofs.lines.append_lines.Goals as goal

pub loop-chunk-preserved : goal.loop-chunk-preserved
loop-chunk-preserved c =
    rw c.in_ok-append_line.ensures (rw c.loop-chunk.invariant (one_more (verdict_line c.args.cuts.now) c.args.verdicts.now c.loop-chunk.chunk Exact c.args.text.now.items c.loop-chunk-test.true))

pub returns : goal.returns
returns c = rw (← all_taken c.args.verdicts.now c.loop-chunk.chunk c.loop-chunk-test.false) c.loop-chunk.invariant
