use Rattle.std.proofs.Common.{◌≡◌, ◌++◌, map, drop, take}
use Rattle.hp_store.specs.Parts.{moved_part}
use Rattle.hp_store.proofs.appending.move_all.Given as goal

abbrev pub invariant-loop-part : goal.invariant-loop-part
invariant-loop-part l = l.parts ≡ map (moved_part l.more) (take l.part-index l.fn.parts) ++ drop l.part-index l.fn.parts
