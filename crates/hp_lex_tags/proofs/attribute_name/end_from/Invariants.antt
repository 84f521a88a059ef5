use Rattle.std.proofs.Common.{◌≡◌, ℕ, ◌-◌, ◌<◌, ◌≤◌, length, get_or, true}
use Rattle.hp_tokens.specs.Plain.{none_of, attribute_name_stops}
use Rattle.hp_lex_tags.proofs.attribute_name.end_from.Given as goal

abbrev pub invariant-loop-end : goal.invariant-loop-end
invariant-loop-end l = (l.end ≤ length l.bytes) × (l.at ≤ l.end) × ((k : ℕ) → l.at ≤ k → k < l.end → none_of attribute_name_stops (get_or l.bytes k 0) ≡ true)

abbrev pub decreases-loop-end : goal.decreases-loop-end
decreases-loop-end l = length l.bytes - l.end
