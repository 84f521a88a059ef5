use Rattle.std.proofs.Common.{◌≡◌, drop}
use Rattle.hp_control.specs.Adoption.{pass_all}
use Rattle.hp_adoption.specs.Entries.{ref_of}
use Rattle.hp_adoption.proofs.climb.Climb.pass_all.Given as goal

abbrev pub invariant-loop-index : goal.invariant-loop-index
invariant-loop-index l = pass_all (ref_of l.is_page) l.block l.index (drop l.index l.nodes) l.self ≡ pass_all (ref_of l.is_page) l.block 0 l.nodes l.initial.self
