-- A board at the start, with its tallies.
use Rattle.std.proofs.Common.{◌≡◌, ◌≢◌, ◌+◌, ◌<◌, ◌≤◌, ◌++◌, ◌==◌, ◌&&◌, ◌||◌, ◌⊎◌, ℕ, List, [], ◌∷◌, Bool, true, false, cond, length, count_by, refl, sym, ap, ◌∙◌, arith, eq-eqb, zero, suc, ⊎_elim}
use Rattle.std.proofs.lemmas.Bool.{cases_eq, ne_eqb}
use Rattle.std.proofs.lemmas.List.{length-append}
use Rattle.std.specs.List.{list_all}
use Rattle.hp_cut.specs.Places.{Cutting}
use Rattle.hp_board.specs.Calls.{AreNumbered, IsBoardOf, fresh_tallies, fresh_tally, opened, worker_tallies}
use Rattle.hp_board.specs.declared.journal.Entry.{Entry}
use Rattle.hp_board.specs.declared.tally.Tally.{Tally}
use Rattle.hp_workers.specs.Parsed.{EndsWithMain, IsReady}
use Rattle.hp_workers.proofs.Counting.{all_push, count_push}
use Rattle.hp_workers.proofs.Recalls.{opened_free}

-- the tally bears that number
abbrev bears : ℕ → Tally → Bool
bears w t = t.worker == w

count_one : (w n k : ℕ) → count_by (bears w) (worker_tallies n) ≡ k → (n == w) ≡ true → count_by (bears w) (worker_tallies (suc n)) ≡ k + 1
unfolding worker_tallies
count_one w n k before is = count_push (bears w) (worker_tallies n) (fresh_tally n) ∙ (ap (λ m. m + cond (n == w) 1 0) before ∙ ap (λ b. k + cond b 1 0) is)

count_none : (w n k : ℕ) → count_by (bears w) (worker_tallies n) ≡ k → (n == w) ≡ false → count_by (bears w) (worker_tallies (suc n)) ≡ k
unfolding worker_tallies
count_none w n k before is = count_push (bears w) (worker_tallies n) (fresh_tally n) ∙ (ap (λ m. m + cond (n == w) 1 0) before ∙ (ap (λ b. k + cond b 1 0) is ∙ omega arith))

-- no worker has a number from their count on
count_above : (w n : ℕ) → n ≤ w → count_by (bears w) (worker_tallies n) ≡ 0
unfolding worker_tallies
count_above w zero above = refl
count_above w (suc n) above = count_none w n 0 (count_above w n (omega arith)) (ne_eqb n w (λ e. omega (arith, e, above)))

-- and one each number below it
count_below : (w n : ℕ) → w < n → count_by (bears w) (worker_tallies n) ≡ 1
unfolding worker_tallies
count_below w zero below = absurd (omega (arith, below))
count_below w (suc n) below = ⊎_elim
    (λ (same : n ≡ w). count_one w n 0 (count_above w n (omega (arith, same))) (eq-eqb n w same))
    (λ (other : n ≢ w). count_none w n 1 (count_below w n (omega (arith, below, other))) (ne_eqb n w other))
    (cases_eq n w)

length_workers : (n : ℕ) → length (worker_tallies n) ≡ n
unfolding worker_tallies
length_workers zero = refl
length_workers (suc n) = omega (arith, length-append (worker_tallies n) (fresh_tally n ∷ []), length_workers n)

abbrev counts_none : Tally → Bool
counts_none t = t.entries == 0

none_counted : (n : ℕ) → list_all counts_none (worker_tallies n) ≡ true
unfolding worker_tallies
none_counted zero = refl
none_counted (suc n) = all_push counts_none (worker_tallies n) (fresh_tally n) (none_counted n) refl

numbered : (n : ℕ) → n ≤ 64 → AreNumbered n (fresh_tallies n)
numbered n most = record {
  each = λ w below. count_push (bears w) (worker_tallies n) (fresh_tally 64) ∙ (ap (λ m. m + cond (64 == w) 1 0) (count_below w n below) ∙ ap (λ b. 1 + cond b 1 0) (ne_eqb 64 w (λ e. omega (arith, e, below, most))));
  main = count_push (bears 64) (worker_tallies n) (fresh_tally 64) ∙ ap (λ m. m + 1) (count_above 64 n most);
  count = omega (arith, length-append (worker_tallies n) (fresh_tally 64 ∷ []), length_workers n);
}

pub opening_ready : (text : List ℕ) (cuts : Cutting) (n : ℕ) → n ≤ 64 → IsReady (opened text cuts n) (fresh_tallies n)
opening_ready text cuts n most = record {
  of = record {
    text = refl;
    cuts = refl;
    numbered = numbered n most;
    borne = refl;
    counted = all_push counts_none (worker_tallies n) (fresh_tally 64) (none_counted n) refl;
  };
  free = opened_free (length cuts.places + 1);
  main = record { workers = worker_tallies n; main = fresh_tally 64; parts = refl; number = refl };
}
