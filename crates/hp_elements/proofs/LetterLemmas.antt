-- What the table of lower case letters has.
use Rattle.std.proofs.Common.{◌≡◌, ◌<◌, ℕ, true, get_or, eqb, refl}
use Rattle.std.specs.Char.{to_ascii_lowercase}
use Rattle.std.proofs.lemmas.Bool.{agree_below, agree_below_at, eqb-true}
use Rattle.hp_elements.specs.declared.letters.TheConstants.{LOWERED}

each_lower : agree_below (λ i. eqb (get_or LOWERED i 0) (to_ascii_lowercase i)) (λ _. true) 256 ≡ true
each_lower = refl

pub lower_at : (byte : ℕ) → byte < 256 → get_or LOWERED byte 0 ≡ to_ascii_lowercase byte
lower_at byte below = eqb-true _ _ (agree_below_at (λ i. eqb (get_or LOWERED i 0) (to_ascii_lowercase i)) (λ _. true) 256 byte each_lower below)
