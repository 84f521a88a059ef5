use Rattle.std.proofs.Common.{◌≡◌, ℕ, ◌-◌, ◌<◌, ◌≤◌, [], ◌∷◌, length, get_or, true}
use Rattle.hp_tokens.specs.Plain.{none_of}
use Rattle.hp_tokens.proofs.stops.four_stops_len.Given as goal

abbrev pub invariant-loop-count : goal.invariant-loop-count
invariant-loop-count l = (l.count ≤ length l.rest) × ((k : ℕ) → k < l.count → none_of (0 ∷ 13 ∷ l.a ∷ l.b ∷ []) (get_or l.rest k 0) ≡ true)

abbrev pub decreases-loop-count : goal.decreases-loop-count
decreases-loop-count l = length l.rest - l.count
