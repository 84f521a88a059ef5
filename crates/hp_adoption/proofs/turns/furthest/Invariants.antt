use Rattle.std.proofs.Common.{◌≡◌, ◌-◌, drop, take, None}
use Rattle.hp_elements.specs.declared.kinds.Kinds.TheVariants as kinds
use Rattle.hp_elements.specs.declared.sets.SetName.TheVariants as sets
use Rattle.hp_control.specs.KindTests.{within}
use Rattle.hp_adoption.specs.Turning.{last_within}
use Rattle.hp_adoption.proofs.turns.furthest.Given as goal

abbrev pub invariant-loop-turn : goal.invariant-loop-turn
invariant-loop-turn l = last_within (within (kinds.Set sets.Special)) (drop (l.depth - l.turn) (take l.depth l.stack)) ≡ None
