use Rattle.std.proofs.Common.{List, ℕ, subst, ◌∙◌, ◌-◌, ◌+◌, ap, take, drop, ◌≡◌, arith}
use Rattle.std.specs.Str.{chars}
use Rattle.hp_tokens.specs.Reading.{PassesFrom}
use Rattle.hp_tokens.specs.Rows.{is_blank}
use Rattle.hp_tokens.proofs.Characters.{low-boundary, low-IsAt, low-ReadsRun, blank_low}
use Rattle.hp_tokens.proofs.Fronts.{low-stops}
use Rattle.hp_tokens.proofs.cursor.Cursor.take_blanks.Goals as goal

passing : (bytes text : List ℕ) (at count : ℕ) → bytes ≡ text → PassesFrom is_blank bytes at count → PassesFrom is_blank text at count
passing bytes text at count e run = let P : List ℕ → Type 0 = λ xs. PassesFrom is_blank xs at count in subst P e run

pub of_page-requires-clause-end : goal.of_page-requires-clause-end
of_page-requires-clause-end c = low-boundary is_blank blank_low _ _ _ c.self.invariant (passing _ _ _ _ c.as_bytes.ensures.value c.blanks_len-count.ensures)

pub invariant_of-self : goal.invariant_of-self
invariant_of-self c = low-IsAt is_blank blank_low _ _ _ c.self.invariant (passing _ _ _ _ c.as_bytes.ensures.value c.blanks_len-count.ensures)

pub returns-clause-run : goal.returns-clause-run
returns-clause-run c =
    let width : (c.self.inside.at + c.blanks_len-count.result) - c.self.inside.at ≡ c.blanks_len-count.result = omega arith in
    let taken : c.of_page.result ≡ chars (take c.blanks_len-count.result (drop c.self.inside.at c.self.inside.text.now)) =
    c.of_page.ensures ∙ ap (λ (n : ℕ). chars (take n (drop c.self.inside.at c.self.inside.text.now))) width in
    rw (← c.self.view_is, taken) (low-ReadsRun is_blank blank_low _ _ _ c.self.invariant (passing _ _ _ _ c.as_bytes.ensures.value c.blanks_len-count.ensures))

pub returns-clause-stops : goal.returns-clause-stops
returns-clause-stops c = low-stops is_blank blank_low _ _ _ (invariant_of-self c) (passing _ _ _ _ c.as_bytes.ensures.value c.blanks_len-count.ensures)
