use Rattle.std.proofs.Common.{◌≡◌, ◌≤◌, ◌∷◌, List, ℕ, length, drop, sym, ◌∙◌, arith}
use Rattle.hp_predict.specs.OpenNames.{Names}
use Rattle.hp_predict.specs.Guess.{with_ends}
use Rattle.hp_predict.proofs.EndsLemmas.{looked, looked_through, step_same, step_other, step_done}
use Rattle.hp_predict.proofs.pile.found_ends.Goals.{then-found-ends+then-same, else-found-ends, else-found-ends-via-then-found-ends+else-same, else-found-ends-via-else-found-ends}
use Rattle.hp_predict.proofs.pile.found_ends.Goals as goal

pub loop-depth-preserved : goal.loop-depth-preserved
loop-depth-preserved c =
    let ends : Names = c.args.ends.now in
    let found : ℕ = c.loop-depth.found in
    let more : ℕ = c.if-found-ends.found in
    let name : List ℕ = c.at-name.result.now in
    let within : more ≤ length ends = elim c.if-found-ends.branch [
      | then-found-ends+then-same w ↦ omega (arith, w.found-is, w.if-found-ends.true)
      | else-found-ends w ↦ omega (arith, w.found-is)
    ] in
    let step : (rest : Names) → with_ends (name ∷ rest) (drop found ends) ≡ name ∷ with_ends rest (drop more ends) = elim c.if-found-ends.branch [
      | then-found-ends+then-same w ↦ λ rest. rw w.found-is (step_same name w.index-ends-found.result rest ends found w.if-found-ends.true w.index-ends-found.is (sym w.same.ensures ∙ w.if-same.true))
      | else-found-ends w ↦ elim w.else-found-ends.branch [
        | else-found-ends-via-then-found-ends+else-same v ↦ λ rest. rw w.found-is (step_other name v.index-ends-found.result rest ends found v.if-found-ends.true v.index-ends-found.is (sym v.same.ensures ∙ v.if-same.false))
        | else-found-ends-via-else-found-ends v ↦ λ rest. rw w.found-is (step_done name rest ends found v.if-found-ends.false)
      ]
    ] in
    record { within = within; found = looked c.args.names.now ends c.loop-depth.depth found more name (omega arith) c.at-name.ensures c.loop-depth.invariant.found step }

pub returns-clause-found : goal.returns-clause-found
returns-clause-found c = looked_through c.args.names.now c.args.ends.now c.loop-depth.depth c.loop-depth.found (omega arith) c.loop-depth.invariant.found
