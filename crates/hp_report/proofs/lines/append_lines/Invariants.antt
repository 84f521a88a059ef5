use Rattle.std.proofs.Common.{◌≡◌, ◌++◌, take}
use Rattle.std.specs.List.{enumerate_from, flat_map}
use Rattle.hp_report.specs.Report.{verdict_line}
use Rattle.hp_report.proofs.lines.append_lines.Given as goal

abbrev pub invariant-loop-chunk : goal.invariant-loop-chunk
invariant-loop-chunk l = l.text.items ≡ l.initial.text.items ++ flat_map (verdict_line l.cuts) (take l.chunk (enumerate_from 0 l.verdicts))
