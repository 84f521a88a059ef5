use Rattle.std.proofs.Common.{◌≡◌, ◌<◌, ℕ, get_or}
use Rattle.hp_print.specs.declared.walk.Mark.{Mark}
use Rattle.hp_print.proofs.parts.are_same.Given as goal

-- the marks so far are the same
abbrev pub invariant-loop-k : goal.invariant-loop-k
invariant-loop-k l = (i : ℕ) (d : Mark) → i < l.k → get_or l.first i d ≡ get_or l.second i d
