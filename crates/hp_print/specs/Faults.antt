-- What a write that failed tells.
use Rattle.std.specs.Prelude.{◌≡◌, ℕ, List, ◌++◌, Result, Ok, Err}
use Rattle.std.specs.Io.KnownBytes.{append_known}
use Rattle.hp_print.specs.Out.{Broke, Has, Sight}
use Rattle.hp_print.specs.declared.output.Out.{Out}
use Rattle.hp_print.specs.declared.walk.Refusal.{Refusal}
use Rattle.hp_print.specs.declared.walk.Refusal.TheVariants.{NoMemory, Fault}

-- this holds of the number of bytes that were taken, where a write failed
abbrev pub OnFault : Result (Unit {0}) Refusal → (ℕ → Type 0) → Type 0
OnFault (Ok _) P = Unit {0}
OnFault (Err NoMemory) P = Unit {0}
OnFault (Err (Fault taken)) P = P taken

-- all was taken, or a write failed and the fault tells what part was
abbrev pub Tells : Result (Unit {0}) Refusal → Sight → Sight → List ℕ → Type 0
Tells (Ok _) start now bytes = now.0 ≡ append_known start.0 bytes
Tells (Err NoMemory) start now bytes = ⊥
Tells (Err (Fault taken)) start now bytes = Broke start now taken bytes

-- these bytes were printed after the others, and the answer tells how much of all of them was taken
pub record Ended (old : Out) (result : Result (Unit {0}) Refusal) (earlier later : Sight) (piece : List ℕ) : Type 0 where
  pub outcome : (start : Sight) (bytes : List ℕ) → Has start earlier old bytes → Tells result start later (bytes ++ piece)
