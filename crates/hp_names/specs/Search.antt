-- The search in a rising table: where a text stands among the names.
use Rattle.std.specs.Prelude.{◌≡◌, ℕ, ◌<◌, ◌≤◌, true, false, List, length, slice_index_or}
use Rattle.hp_names.specs.Order.{is_upto}
use Rattle.hp_names.specs.References.{Reference}

-- the names before this place are the text or come before it, and those from it on come after it
pub record StandsAt (table : List Reference) (text : List ℕ) (at : ℕ) : Type 0 where
  pub within : at ≤ length table
  pub upto : (k : ℕ) (d : Reference) → k < at → is_upto (slice_index_or table k d).name text ≡ true
  pub above : (k : ℕ) (d : Reference) → at ≤ k → k < length table → is_upto (slice_index_or table k d).name text ≡ false
