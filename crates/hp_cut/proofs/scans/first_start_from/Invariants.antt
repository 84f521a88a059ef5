use Rattle.std.proofs.Common.{◌≡◌, length}
use Rattle.hp_cut.specs.Places.{is_start, first_within}
use Rattle.hp_cut.proofs.scans.first_start_from.Given as goal

-- the first start is the one among those that are left
abbrev pub invariant-loop-place : goal.invariant-loop-place
invariant-loop-place l =
    first_within (is_start l.text) l.place (length l.text) ≡ first_within (is_start l.text) l.from (length l.text)
