use Rattle.std.proofs.Common.{◌≡◌, length}
use Rattle.hp_cut.specs.Places.{first_within}
use Rattle.hp_cut.specs.Refusals.{passes_end}
use Rattle.hp_cut.proofs.listed.first_past_end.Given as goal

-- the index is the one among those that are left
abbrev pub invariant-loop-index : goal.invariant-loop-index
invariant-loop-index l =
    first_within (passes_end l.text l.places) l.index (length l.places) ≡ first_within (passes_end l.text l.places) 0 (length l.places)
