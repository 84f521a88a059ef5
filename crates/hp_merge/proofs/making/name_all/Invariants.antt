use Rattle.std.proofs.Common.{◌≡◌, ◌++◌, map, drop, take}
use Rattle.hp_control.specs.Telling.{told_over}
use Rattle.hp_merge.proofs.making.name_all.Given as goal

abbrev pub invariant-loop-edit : goal.invariant-loop-edit
invariant-loop-edit l = l.edits ≡ map (told_over (drop l.above l.stack) l.next) (take l.edit-index l.fn.edits) ++ drop l.edit-index l.fn.edits
