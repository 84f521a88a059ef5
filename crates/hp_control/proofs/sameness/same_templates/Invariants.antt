use Rattle.std.proofs.Common.{◌≡◌, take}
use Rattle.hp_control.proofs.sameness.same_templates.Given as goal

abbrev pub invariant-loop-depth : goal.invariant-loop-depth
invariant-loop-depth l = take l.depth l.modes ≡ take l.depth l.other
