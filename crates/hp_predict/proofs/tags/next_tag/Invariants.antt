use Rattle.std.proofs.Common.{◌≡◌, ◌≤◌, false, length}
use Rattle.hp_predict.specs.Tags.{tags}
use Rattle.hp_predict.proofs.tags.next_tag.Given as goal

abbrev pub invariant-loop-at : goal.invariant-loop-at
invariant-loop-at l = record { same : tags false l.rest ≡ tags false l.text; short : length l.rest ≤ length l.text }

abbrev pub decreases-loop-at : goal.decreases-loop-at
decreases-loop-at l = length l.rest
