use Rattle.std.proofs.Common.{drop, map}
use Rattle.hp_growth.specs.Telling.{own_named}
use Rattle.hp_growth.proofs.Grown.{Leads}
use Rattle.hp_growth.proofs.growing.Growing.put_each_told.Given as goal

abbrev pub invariant-loop-edit : goal.invariant-loop-edit
invariant-loop-edit l = Leads l.fn.self (map (own_named l.fn.next) l.fn.edits) (map (own_named l.fn.next) (drop l.edit-index l.edits)) l.self
