use Rattle.std.proofs.Common.{◌≡◌, ◌-◌, drop}
use Rattle.hp_control.proofs.copies.copy_list.Given as goal

abbrev pub invariant-loop-turn : goal.invariant-loop-turn
invariant-loop-turn l = l.copies ≡ drop (l.count - l.turn) l.list
