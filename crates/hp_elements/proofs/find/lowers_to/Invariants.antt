use Rattle.std.proofs.Common.{◌≡◌, ℕ, ◌<◌, length, get_or}
use Rattle.std.specs.Char.{to_ascii_lowercase}
use Rattle.hp_elements.proofs.find.lowers_to.Given as goal

abbrev pub invariant-loop-i : goal.invariant-loop-i
invariant-loop-i l = (l.i-end ≡ length l.text) × (length l.text ≡ length l.to) × ((k : ℕ) → k < l.i → to_ascii_lowercase (get_or l.text k 0) ≡ get_or l.to k 0)
