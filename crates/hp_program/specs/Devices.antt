-- What a run does to the page's source, to the output and to the notes.
use Rattle.std.specs.Prelude.{◌≡◌, ◌⊎◌, ℕ, List, Option, take}
use Rattle.std.specs.Io.KnownBytes.{append_known}
use Rattle.hp_text.specs.Device.{Rose}

-- a source before and after a run: the bytes that are left in it, where they are told, and its count of faults
pub record Reading : Type 0 where
  pub before : Option (List ℕ)
  pub after : Option (List ℕ)
  pub faults : ℕ
  pub faults_after : ℕ

-- a sink before and after a run: the bytes that it took, where they are told, and its count of faults
pub record Writing : Type 0 where
  pub before : Option (List ℕ)
  pub after : Option (List ℕ)
  pub faults : ℕ
  pub faults_after : ℕ

-- the count of faults rose in the run
abbrev pub ReadingFailed : Reading → Type 0
ReadingFailed r = Rose r.faults r.faults_after

abbrev pub WritingFailed : Writing → Type 0
WritingFailed w = Rose w.faults w.faults_after

-- a text was taken whole, and nothing else
abbrev pub Takes : List ℕ → Writing → Type 0
Takes text w = w.after ≡ append_known w.before text

-- the first bytes of a text were taken, which are so many, and nothing else
abbrev pub TakesFirstOf : ℕ → List ℕ → Writing → Type 0
TakesFirstOf n text w = w.after ≡ append_known w.before (take n text)

-- a text was taken whole, or its first bytes where the count of faults rose
abbrev pub TakesUnlessFailed : List ℕ → Writing → Type 0
TakesUnlessFailed text w = Takes text w ⊎ ((n : ℕ) × TakesFirstOf n text w × WritingFailed w)
