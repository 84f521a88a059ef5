-- What the entries of a journal say of the chunks, from the last one on.
use Rattle.std.proofs.Common.{◌≡◌, ℕ, zero, suc, ◌<◌, ◌==◌, true, false, if◌then◌else◌, Some, refl, ap, ◌∙◌, sym, inl, inr, arith, List, [], ◌∷◌, ◌++◌, length, map, reverse, set, replicate}
use Rattle.std.proofs.lemmas.Bool.{cases_eq}
use Rattle.std.proofs.lemmas.Bool.Decides.{nat_tests}
use Rattle.std.proofs.lemmas.Grind.{get_or-set_at}
use Rattle.std.proofs.lemmas.List.{get_or-replicate, get_or-set_other, length-replicate, length-set, map-append, reverse-append}
use Rattle.std.proofs.lemmas.List.FromFn.{fill_by_all, get_or-map-range_with_len, length-map-range_with_len}
use Rattle.hp_board.specs.Origins.{judges}
use Rattle.hp_board.specs.declared.journal.BoardStep.{BoardStep}
use Rattle.hp_board.specs.declared.journal.BoardStep.TheVariants as step
use Rattle.hp_board.specs.declared.journal.Entry.{Entry}
use Rattle.hp_report.specs.declared.verdict.Verdict.TheVariants as verdict
use Rattle.hp_report.specs.Report.{first_judgement, judged, numbers, verdict_of, verdicts_of}
use Rattle.hp_report.specs.Noting.{first_said, noted}

module _ {X : Type 0} where
  -- a list by numbers is another one with one element set, where the two functions differ there alone
  set_at : (f g : ℕ → X) (count at : ℕ) (x : X) → g at ≡ x → ((k : ℕ) → (k ≡ at → ⊥) → g k ≡ f k) → set (map f (numbers count)) at x ≡ map g (numbers count)
  set_at f g count at x here there = fill_by_all g (set (map f (numbers count)) at x) count x (length-set _ at x ∙ length-map-range_with_len f 0 count) (λ k lt. elim (cases_eq k at) [
    | inl same ↦ get_or-set_at (map f (numbers count)) at k x x same (omega (arith, length-map-range_with_len f 0 count)) ∙ sym (ap g same ∙ here)
    | inr other ↦ get_or-set_other (map f (numbers count)) at k x x other ∙ get_or-map-range_with_len f 0 count k k x lt (omega arith) ∙ sym (there k other)
  ])

-- the test whether a step judges a chunk
same_chunk : (chunk : ℕ) → (chunk == chunk) ≡ true
same_chunk chunk = grind (arith, nat_tests)

other_chunk : (chunk k : ℕ) → (k ≡ chunk → ⊥) → (chunk == k) ≡ false
other_chunk chunk k other = grind (arith, nat_tests)

noted_step : (count : ℕ) (s : BoardStep) (journal : List Entry)
    → noted (first_said count journal) s ≡ map (λ k. judged (if judges k s then Some s else first_judgement k journal)) (numbers count)
noted_step count (step.Claimed chunk again) journal = refl
noted_step count (step.Posted chunk covered by) journal = refl
noted_step count (step.Kept chunk) journal = set_at _ _ count chunk verdict.Kept (rw (same_chunk chunk) refl) (λ k other. rw (other_chunk chunk k other) refl)
noted_step count (step.Repaired chunk at) journal = set_at _ _ count chunk (verdict.Repaired at) (rw (same_chunk chunk) refl) (λ k other. rw (other_chunk chunk k other) refl)
noted_step count (step.RolledBack chunk kind) journal = set_at _ _ count chunk (verdict.RolledBack kind) (rw (same_chunk chunk) refl) (λ k other. rw (other_chunk chunk k other) refl)
noted_step count (step.Released chunk) journal = refl

-- an entry before a journal: what it says is noted last
pub noted_more : (count : ℕ) (e : Entry) (journal : List Entry) → noted (first_said count journal) e.step ≡ first_said count (e ∷ journal)
unfolding first_judgement
noted_more count e journal = noted_step count e.step journal

-- of an empty journal nothing is known
pub none_said : (count : ℕ) → replicate count verdict.NotJudged ≡ first_said count []
unfolding first_judgement
none_said count = fill_by_all (λ k. judged (first_judgement k [])) (replicate count verdict.NotJudged) count verdict.NotJudged (length-replicate count _) (λ k lt. get_or-replicate count k _ _ lt)

after_first : (journal : List Entry) (k : ℕ) → (k ≡ 0 → ⊥) → verdict_of journal k ≡ judged (first_judgement k journal)
after_first journal zero other = absurd (other refl)
after_first journal (suc k) other = refl

-- the first chunk is exact
pub first_exact : (count : ℕ) (journal : List Entry) → set (first_said count journal) 0 verdict.Exact ≡ verdicts_of count journal
first_exact count journal = set_at (λ k. judged (first_judgement k journal)) (verdict_of journal) count 0 verdict.Exact refl (after_first journal)

module _ {A B : Type 0} where
  pub reverse_more : (f : A → B) (xs : List A) (x : A) → reverse (map f (xs ++ x ∷ [])) ≡ f x ∷ reverse (map f xs)
  reverse_more f xs x = ap reverse (map-append f xs (x ∷ [])) ∙ reverse-append (map f xs) (f x ∷ [])

module _ {A : Type 0} where
  pub reverse_twice : (xs : List A) → reverse (reverse xs) ≡ xs
  reverse_twice [] = refl
  reverse_twice (x ∷ xs) = ap reverse (reverse-append (x ∷ []) xs) ∙ reverse-append (reverse xs) (x ∷ []) ∙ ap (λ l. x ∷ l) (reverse_twice xs)
