-- The first number of a range that passes a test, step by step.
use Rattle.std.proofs.Common.{◌≡◌, ℕ, zero, suc, ◌+◌, ◌-◌, ◌<◌, ◌≤◌, Bool, true, false, refl, ap, ◌∙◌, sym, arith, Option, Some, None}
use Rattle.std.specs.Prelude.{nat_eq, ◌≢◌}
use Rattle.std.proofs.lemmas.Bool.Decides.{nat_tests}
use Rattle.hp_cut.specs.Places.{first_among, first_within}

among-skip : (test : ℕ → Bool) (from n : ℕ) → test from ≡ false → first_among test from (suc n) ≡ first_among test (from + 1) n
unfolding first_among
among-skip test from n fails = rw (fails, first_among) refl

among-here : (test : ℕ → Bool) (from n : ℕ) → test from ≡ true → first_among test from (suc n) ≡ Some from
unfolding first_among
among-here test from n passes = rw (passes, first_among) refl

-- a number that doesn't pass is skipped
pub first_within-skip : (test : ℕ → Bool) (from to : ℕ) → from < to → test from ≡ false → first_within test from to ≡ first_within test (from + 1) to
unfolding first_within
first_within-skip test from to lt fails =
    let e : to - from ≡ suc (to - (from + 1)) = omega arith in
    rw e (among-skip test from (to - (from + 1)) fails)

-- a number that passes is the first
pub first_within-here : (test : ℕ → Bool) (from to : ℕ) → from < to → test from ≡ true → first_within test from to ≡ Some from
unfolding first_within
first_within-here test from to lt passes =
    let e : to - from ≡ suc (to - (from + 1)) = omega arith in
    rw e (among-here test from (to - (from + 1)) passes)

-- an empty range has none
pub first_within-none : (test : ℕ → Bool) (from to : ℕ) → to ≤ from → first_within test from to ≡ None
unfolding first_within first_among
first_within-none test from to le =
    let e : to - from ≡ 0 = omega arith in rw e refl

pub ruleset within_steps = (first_within-skip, first_within-here, first_within-none)

-- what the first number that passes is
pub record Found (test : ℕ → Bool) (from to number : ℕ) : Type 0 where
  pub from_on : from ≤ number
  pub below : number < to
  pub passes : test number ≡ true

among-found : (test : ℕ → Bool) (from n number : ℕ) → first_among test from n ≡ Some number → Found test from (from + n) number
unfolding first_among
among-found test from zero number e = cc
among-found test from (suc n) number e =
    elim (test from) as (λ b. test from ≡ b → elim b as (λ _. Option ℕ) [ true ↦ Some from | false ↦ first_among test (from + 1) n ] ≡ Some number → Found test from (from + suc n) number) [
      | true ↦ λ is e. let same : from ≡ number = cc in record { from_on = omega arith; below = omega arith; passes = rw (← same) is }
      | false ↦ λ is e. let f = among-found test (from + 1) n number e in record { from_on = omega (arith, f.from_on); below = omega (arith, f.below); passes = f.passes }
    ] refl e

pub within-found : (test : ℕ → Bool) (from to number : ℕ) → first_within test from to ≡ Some number → Found test from to number
unfolding first_within
within-found test from to number e = let f = among-found test from (to - from) number e in record { from_on = f.from_on; below = omega (arith, f.below, f.from_on); passes = f.passes }

-- where none passes, no number of the range does
among-none : (test : ℕ → Bool) (from n : ℕ) → first_among test from n ≡ None → (number : ℕ) → from ≤ number → number < from + n → test number ≡ false
unfolding first_among
among-none test from zero e number le lt = absurd (omega arith)
among-none test from (suc n) e number le lt =
    elim (test from) as (λ b. test from ≡ b → elim b as (λ _. Option ℕ) [ true ↦ Some from | false ↦ first_among test (from + 1) n ] ≡ None → test number ≡ false) [
      | true ↦ λ is some. cc
      | false ↦ λ is none.
          elim (nat_eq from number) as (λ b. nat_eq from number ≡ b → test number ≡ false) [
            | true ↦ λ here. let same : from ≡ number = grind (arith, nat_tests) in rw (← same) is
            | false ↦ λ other. let ne : from ≢ number = grind (arith, nat_tests) in among-none test (from + 1) n none number (omega arith) (omega arith)
          ] refl
    ] refl e

pub within-none : (test : ℕ → Bool) (from to : ℕ) → first_within test from to ≡ None → (number : ℕ) → from ≤ number → number < to → test number ≡ false
unfolding first_within
within-none test from to e number le lt = among-none test from (to - from) e number le (omega arith)
