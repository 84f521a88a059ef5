-- Streams: what is known of the bytes, and how many calls failed.
use Rattle.std.specs.Prelude.{ℕ, ◌-◌, Bool, List, Option, option_map, length, take}

-- a source over a reader: the bytes that the reader has left, where they are told, and the count of faults
pub record SourceStream : Type 0 where
  pub bytes : Option (List ℕ)
  pub faults : ℕ

-- a sink over a writer: the bytes that were taken, where they are told; how many more the writer holds, since their flush failed; whether
-- the writer has flushed all that it holds; and the count of faults
pub record SinkStream : Type 0 where
  pub bytes : Option (List ℕ)
  pub unflushed : ℕ
  pub is_flushed : Bool
  pub faults : ℕ

-- the known bytes but the last ones, which are so many
abbrev pub without_last : ℕ → Option (List ℕ) → Option (List ℕ)
without_last n known = option_map (λ xs. take (length xs - n) xs) known
