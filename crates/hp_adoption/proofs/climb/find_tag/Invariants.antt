use Rattle.std.proofs.Common.{◌≡◌, drop}
use Rattle.hp_adoption.specs.Entries.{tag_of}
use Rattle.hp_adoption.proofs.climb.find_tag.Given as goal

abbrev pub invariant-loop-depth : goal.invariant-loop-depth
invariant-loop-depth l = tag_of l.id (drop l.depth l.list) ≡ tag_of l.id l.list
