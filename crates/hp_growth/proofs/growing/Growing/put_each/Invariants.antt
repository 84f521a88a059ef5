use Rattle.std.proofs.Common.{drop}
use Rattle.hp_growth.proofs.Grown.{LeadsFirst}
use Rattle.hp_growth.proofs.growing.Growing.put_each.Given as goal

abbrev pub invariant-loop-edit : goal.invariant-loop-edit
invariant-loop-edit l = LeadsFirst l.fn.self l.fn.edits (drop l.edit-index l.edits) l.self
