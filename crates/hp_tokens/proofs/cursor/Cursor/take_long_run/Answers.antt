use Rattle.std.proofs.Common.{List, ℕ, subst, ◌∙◌, ◌-◌, ◌+◌, ap, take, drop, ◌≡◌, arith}
use Rattle.hp_tokens.specs.Reading.{PassesFrom}
use Rattle.hp_tokens.proofs.Characters.{run-IsAt, run-ReadsRun}
use Rattle.hp_tokens.proofs.Fronts.{high-stops}
use Rattle.hp_tokens.proofs.cursor.Cursor.take_long_run.Given.{Over}
use Rattle.hp_tokens.proofs.cursor.Cursor.take_long_run.Goals as goal
use Rattle.hp_tokens.proofs.cursor.Cursor.take_long_run.Goals.{After-range}

run : (g : Over) (c : After-range g) → PassesFrom g.R.Run.passes c.self.inside.text.now c.self.inside.at c.run_len-count.result
run g c =
    let P : List ℕ → Type 0 = λ xs. PassesFrom g.R.Run.passes xs c.self.inside.at c.run_len-count.result in
    subst P c.as_bytes.ensures.value c.run_len-count.ensures

pub invariant_of-self : goal.invariant_of-self
invariant_of-self g c = run-IsAt g.R.Run.passes g.met.R.Run.high _ _ _ c.self.invariant (run g c)

pub returns-clause-run : goal.returns-clause-run
returns-clause-run g c =
    let width : (c.self.inside.at + c.run_len-count.result) - c.self.inside.at ≡ c.run_len-count.result = omega arith in
    let taken : c.range.result.now ≡ take c.run_len-count.result (drop c.self.inside.at c.self.inside.text.now) =
    c.range.ensures.value ∙ ap (λ (n : ℕ). take n (drop c.self.inside.at c.self.inside.text.now)) width in
    rw (← c.self.view_is, taken) (run-ReadsRun g.R.Run.passes g.met.R.Run.high _ _ _ c.self.invariant (run g c))

pub returns-clause-stops : goal.returns-clause-stops
returns-clause-stops g c = high-stops g.R.Run.passes g.met.R.Run.high _ _ _ (invariant_of-self g c) (run g c)
