use Rattle.std.proofs.Common.{List, ℕ, subst, refl, ◌∙◌, ◌-◌, ◌+◌, ap, take, drop, ◌≡◌, arith}
use Rattle.std.specs.Str.{chars}
use Rattle.hp_tokens.specs.Reading.{PassesFrom}
use Rattle.hp_tokens.specs.Plain.{none_of, whole_data_stops}
use Rattle.hp_tokens.specs.PlainLaws.{none-high}
use Rattle.hp_tokens.proofs.Characters.{run-IsAt, run-ReadsRun}
use Rattle.hp_tokens.proofs.Fronts.{high-stops}
use Rattle.hp_tokens.proofs.cursor.Cursor.take_data.Goals as goal

passing : (bytes text : List ℕ) (at count : ℕ) → bytes ≡ text → PassesFrom (none_of whole_data_stops) bytes at count → PassesFrom (none_of whole_data_stops) text at count
passing bytes text at count e run = let P : List ℕ → Type 0 = λ xs. PassesFrom (none_of whole_data_stops) xs at count in subst P e run

pub invariant_of-self : goal.invariant_of-self
invariant_of-self c = run-IsAt (none_of whole_data_stops) (none-high whole_data_stops refl) _ _ _ c.self.invariant (passing _ _ _ _ c.as_bytes.ensures.value c.four_stops_len-count.ensures)

pub returns-clause-run : goal.returns-clause-run
returns-clause-run c =
    let width : (c.self.inside.at + c.four_stops_len-count.result) - c.self.inside.at ≡ c.four_stops_len-count.result = omega arith in
    let taken : c.of_page.result ≡ chars (take c.four_stops_len-count.result (drop c.self.inside.at c.self.inside.text.now)) =
    c.of_page.ensures ∙ ap (λ (n : ℕ). chars (take n (drop c.self.inside.at c.self.inside.text.now))) width in
    rw (← c.self.view_is, taken) (run-ReadsRun (none_of whole_data_stops) (none-high whole_data_stops refl) _ _ _ c.self.invariant (passing _ _ _ _ c.as_bytes.ensures.value c.four_stops_len-count.ensures))

pub returns-clause-stops : goal.returns-clause-stops
returns-clause-stops c = high-stops (none_of whole_data_stops) (none-high whole_data_stops refl) _ _ _ (invariant_of-self c) (passing _ _ _ _ c.as_bytes.ensures.value c.four_stops_len-count.ensures)
