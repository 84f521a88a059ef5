-- What ends a run that is searched by whole vectors.
use Rattle.std.specs.Prelude.{◌≡◌, ℕ, ◌<◌, ◌≤◌, ◌==◌, ◌||◌, Bool, true, false, List, length, slice_index}

-- U+0000, CR, or one of two more
abbrev pub is_stop : ℕ → ℕ → ℕ → Bool
is_stop a b c = (c == 0) || (c == 13) || (c == a) || (c == b)

-- the first n bytes pass the test, and there the list ends, or a byte that does not
pub record EndsRun (test : ℕ → Bool) (xs : List ℕ) (n : ℕ) : Type 0 where
  pub within : n ≤ length xs
  pub before : (k : ℕ) → k < n → test (slice_index xs k) ≡ true
  pub stop : n < length xs → test (slice_index xs n) ≡ false
