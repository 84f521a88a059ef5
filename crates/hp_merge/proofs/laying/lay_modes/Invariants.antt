use Rattle.std.proofs.Common.{◌≡◌, ◌-◌, ◌++◌, drop}
use Rattle.hp_merge.proofs.laying.lay_modes.Given as goal

abbrev pub invariant-loop-turn : goal.invariant-loop-turn
invariant-loop-turn l = l.modes ≡ drop (l.count - l.turn) l.own ++ l.initial.modes
