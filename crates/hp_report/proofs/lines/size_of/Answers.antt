use Rattle.std.proofs.Common.{arith, ◌≤◌, ◌+◌, get_or}
use Rattle.hp_report.proofs.Places.{end_rises}
use Rattle.hp_report.proofs.lines.size_of.Goals as goal

pub overflow_sub-result : goal.overflow_sub-result
overflow_sub-result c = rw (c.place_at-from.ensures.place, c.place_at-to.ensures.place) (end_rises c.args.cuts.now c.args.chunk c.place_at-from.ensures.lawful c.requires)
