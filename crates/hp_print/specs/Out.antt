-- What was printed so far: what the sink took of it, and what is gathered.
use Rattle.std.specs.Prelude.{◌≡◌, ℕ, ◌-◌, ◌^◌, ◌<◌, min, Option, Result, Ok, Err, List, [], ◌++◌, length, take}
use Rattle.std.specs.Io.KnownBytes.{append_known}
use Rattle.hp_text.specs.Device.{Rose}
use Rattle.hp_text.specs.declared.writing.WriteFault.{WriteFault}
use Rattle.hp_print.specs.declared.output.Out.{Out}
use Rattle.hp_print.specs.declared.output.Out.TheVariants.{Gathered, Failed}

-- what a sink shows: the bytes that it took, where it tells them, and its count of faults
abbrev pub Sight : Type 0
Sight = Option (List ℕ) × ℕ

-- the first bytes of a text were taken, and not all of them
abbrev pub TakesPart : List ℕ → Option (List ℕ) → Option (List ℕ) → Type 0
TakesPart text old new = (n : ℕ) × (n < length text) × (new ≡ append_known old (take n text))

-- a number of bytes as it is counted in 64 bits, where it stands still at the end
abbrev pub counted : ℕ → ℕ
counted n = min n (2 ^ 64 - 1)

-- so many bytes of a text were taken, its first ones, and not all of them
pub record TakesFirst (taken : ℕ) (text : List ℕ) (old new : Option (List ℕ)) : Type 0 where
  pub part : TakesPart text old new
  pub count : taken ≡ counted part.0

-- all was taken but what is gathered
pub record Waits (start now : Sight) (gathered : List ℕ) (written : ℕ) (bytes : List ℕ) : Type 0 where
  pub gone : List ℕ
  pub taken : now.0 ≡ append_known start.0 gone
  pub whole : gone ++ gathered ≡ bytes
  pub count : written ≡ counted (length gone)
  pub faults : now.1 ≡ start.1

-- a write failed before all was taken
pub record Broke (start now : Sight) (taken : ℕ) (bytes : List ℕ) : Type 0 where
  pub part : TakesFirst taken bytes start.0 now.0
  pub rose : Rose start.1 now.1

-- these bytes were printed since the start
abbrev pub Has : Sight → Sight → Out → List ℕ → Type 0
Has start now (Gathered gathered written) bytes = Waits start now gathered written bytes
Has start now (Failed taken) bytes = Broke start now taken bytes

-- these bytes were printed after the others
pub record Prints (old new : Out) (earlier later : Sight) (piece : List ℕ) : Type 0 where
  pub after : (start : Sight) (bytes : List ℕ) → Has start earlier old bytes → Has start later new (bytes ++ piece)

-- nothing was printed
abbrev pub Starts : Out → Type 0
Starts out = (start : Sight) → Has start start out []

-- nothing is gathered
abbrev pub IsEmpty : Out → Type 0
IsEmpty (Gathered gathered written) = gathered ≡ []
IsEmpty (Failed taken) = Unit {0}

-- all was written, or a part of it
abbrev pub Outcome : Result (Unit {0}) WriteFault → Sight → Sight → List ℕ → Type 0
Outcome (Ok _) start now bytes = now.0 ≡ append_known start.0 bytes
Outcome (Err fault) start now bytes = Broke start now fault.taken bytes

pub record Finished (old : Out) (done : Result (Unit {0}) WriteFault) (earlier later : Sight) : Type 0 where
  pub outcome : (start : Sight) (bytes : List ℕ) → Has start earlier old bytes → Outcome done start later bytes
