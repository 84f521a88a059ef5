use Rattle.std.proofs.Common.{◌≡◌, length}
use Rattle.hp_cut.specs.Places.{first_within}
use Rattle.hp_cut.specs.Refusals.{splits}
use Rattle.hp_cut.proofs.listed.first_not_a_start.Given as goal

-- the index is the one among those that are left
abbrev pub invariant-loop-index : goal.invariant-loop-index
invariant-loop-index l =
    first_within (splits l.text l.places) l.index (length l.places) ≡ first_within (splits l.text l.places) 0 (length l.places)
