use Rattle.std.proofs.Common.{◌≡◌, length}
use Rattle.hp_names.specs.Longest as spec
use Rattle.hp_names.specs.Table.{references}
use Rattle.hp_names.proofs.search.searched.Given as goal

abbrev pub invariant-loop-left : goal.invariant-loop-left
invariant-loop-left l = spec.longest (references l.bytes l.rows) l.left ≡ spec.longest (references l.bytes l.rows) l.text

abbrev pub decreases-loop-left : goal.decreases-loop-left
decreases-loop-left l = length l.left
