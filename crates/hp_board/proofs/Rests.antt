-- What is left of a chunk.
use Rattle.std.proofs.Common.{◌≡◌, ◌+◌, ◌<◌, ◌≤◌, ℕ, List, length, max, sym, ap, subst, ◌∙◌, arith, inl, inr}
use Rattle.std.specs.Str.{IsCharBoundary}
use Rattle.std.proofs.lemmas.Bool.{cases_lt}
use Rattle.hp_board.specs.Desk.{Desk, IsKept, rest_start}
use Rattle.hp_board.specs.Machine.{end_of, start_of}
use Rattle.hp_board.proofs.Cutting.{start-place, start-rises}

-- the committed text ends no later than the chunk
pub rest-behind : (desk : Desk) (k : ℕ) → IsKept desk → k < length desk.slots → desk.done ≤ k → desk.place ≤ end_of desk.cuts k
rest-behind desk k kept within undone =
    let far : end_of desk.cuts desk.done ≤ end_of desk.cuts k = start-rises desk.text desk.cuts (desk.done + 1) (k + 1) kept.lawful (omega (arith, undone)) (omega (arith, kept.count, within)) in
    omega (arith, far, kept.upto (omega (arith, undone, within)))

-- a code point begins where what is left begins
pub rest-place : (desk : Desk) (k : ℕ) → IsKept desk → k < length desk.slots → IsCharBoundary desk.text (rest_start desk k)
rest-place desk k kept within =
    elim (cases_lt desk.place (start_of desk.cuts k)) [
      | inl less ↦
          let e : start_of desk.cuts k ≡ rest_start desk k = omega (arith, less) in
          subst (IsCharBoundary desk.text) e (start-place desk.text desk.cuts k kept.utf8 kept.of_text (omega (arith, kept.count, within)))
      | inr other ↦
          let e : desk.place ≡ rest_start desk k = omega (arith, other) in
          subst (IsCharBoundary desk.text) e kept.boundary
    ]
