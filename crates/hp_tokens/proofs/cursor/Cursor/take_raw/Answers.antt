use Rattle.std.proofs.Common.{List, ℕ, subst, refl, ◌∙◌, ◌-◌, ◌+◌, ap, take, drop, length, ◌≡◌, arith}
use Rattle.std.specs.Str.{chars}
use Rattle.hp_tokens.specs.Reading.{PassesFrom}
use Rattle.hp_tokens.specs.Plain.{none_of, whole_raw_stops}
use Rattle.hp_tokens.specs.PlainLaws.{none-high}
use Rattle.hp_tokens.proofs.Characters.{rest_whole, run-IsAt, run-ReadsRun}
use Rattle.hp_tokens.proofs.Searching.{raw-found}
use Rattle.hp_tokens.proofs.Fronts.{high-stops}
use Rattle.hp_tokens.proofs.cursor.Cursor.take_raw.Goals as goal
use Rattle.hp_tokens.proofs.cursor.Cursor.take_raw.Goals.{After-of_page}

found : (c : After-of_page) → PassesFrom (none_of whole_raw_stops) c.self.inside.text.now c.self.inside.at c.unwrap_or-count.result
found c =
    let bytes : List ℕ = c.as_bytes.result.now in
    let P : List ℕ → Type 0 = λ xs. PassesFrom (none_of whole_raw_stops) xs c.self.inside.at c.unwrap_or-count.result in
    subst P c.as_bytes.ensures.value
    (raw-found bytes (take (length bytes - c.self.inside.at) (drop c.self.inside.at bytes)) c.self.inside.at c.unwrap_or-count.result c.memchr3.result
    (rest_whole bytes c.self.inside.at) c.memchr3.ensures c.unwrap_or-count.ensures)

pub invariant_of-self : goal.invariant_of-self
invariant_of-self c = run-IsAt (none_of whole_raw_stops) (none-high whole_raw_stops refl) _ _ _ c.self.invariant (found c)

pub returns-clause-run : goal.returns-clause-run
returns-clause-run c =
    let width : (c.self.inside.at + c.unwrap_or-count.result) - c.self.inside.at ≡ c.unwrap_or-count.result = omega arith in
    let taken : c.of_page.result ≡ chars (take c.unwrap_or-count.result (drop c.self.inside.at c.self.inside.text.now)) =
    c.of_page.ensures ∙ ap (λ (n : ℕ). chars (take n (drop c.self.inside.at c.self.inside.text.now))) width in
    rw (← c.self.view_is, taken) (run-ReadsRun (none_of whole_raw_stops) (none-high whole_raw_stops refl) _ _ _ c.self.invariant (found c))

pub returns-clause-stops : goal.returns-clause-stops
returns-clause-stops c = high-stops (none_of whole_raw_stops) (none-high whole_raw_stops refl) _ _ _ (invariant_of-self c) (found c)
