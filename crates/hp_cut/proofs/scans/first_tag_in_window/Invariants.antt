use Rattle.std.proofs.Common.{◌≡◌, length}
use Rattle.hp_cut.specs.Places.{is_tag, first_within}
use Rattle.hp_cut.proofs.scans.first_tag_in_window.Given as goal

-- the first tag is the one among those that are left
abbrev pub invariant-loop-place : goal.invariant-loop-place
invariant-loop-place l =
    first_within (is_tag l.text) l.place l.end ≡ first_within (is_tag l.text) l.from l.end
