use Rattle.std.proofs.Common.{◌≡◌, ◌≤◌, take}
use Rattle.std.specs.Prelude.{count_by}
use Rattle.hp_report.specs.Report.{is_kept, is_repaired, is_rolled_back}
use Rattle.hp_report.proofs.lines.count_all.Given as goal

abbrev pub invariant-loop-verdict : goal.invariant-loop-verdict
invariant-loop-verdict l = (l.counts.kept ≡ count_by is_kept (take l.verdict-index l.verdicts))
    × (l.counts.repaired ≡ count_by is_repaired (take l.verdict-index l.verdicts))
    × (l.counts.rolled_back ≡ count_by is_rolled_back (take l.verdict-index l.verdicts))
    × (l.counts.kept ≤ l.verdict-index) × (l.counts.repaired ≤ l.verdict-index) × (l.counts.rolled_back ≤ l.verdict-index)
