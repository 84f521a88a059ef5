-- What a text has after bytes were appended.
use Rattle.std.proofs.Common.{◌≡◌, ℕ, List, ◌++◌, Result, Ok, Err, if◌then◌else◌}
use Rattle.std.specs.Prelude.{OnOk}
use Rattle.std.specs.Result.{is_ok}

pub extended : {T E : Type 0} (r : Result T E) (old new bytes line : List ℕ) → new ≡ (if is_ok r then old ++ bytes else old) → bytes ≡ line → OnOk r (new ≡ old ++ line)
extended (Ok _) old new bytes line e same = rw (← same) e
extended (Err _) old new bytes line e same = tt
