-- What a step does to a tally.
use Rattle.std.specs.Prelude.{◌≡◌, ◌+◌, ◌-◌, ◌^◌, ◌≤◌, min}
use Rattle.hp_board.specs.declared.steps.Advance.{Advance}
use Rattle.hp_board.specs.declared.steps.Advance.TheVariants as advance
use Rattle.hp_board.specs.declared.tally.Tally.{Tally}

-- one entry more, of the same worker; the last number stays
pub record IsRaised (old new : Tally) : Type 0 where
  pub worker : new.worker ≡ old.worker
  pub entries : new.entries ≡ min (old.entries + 1) (2 ^ 64 - 1)
  pub grows : old.entries ≤ new.entries

-- the same worker's tally, with no fewer entries
pub record IsLater (old new : Tally) : Type 0 where
  pub worker : new.worker ≡ old.worker
  pub entries : old.entries ≤ new.entries

-- one entry more, but none for an idle advance
abbrev pub IsRaisedUnlessIdle : Tally → Tally → Advance → Type 0
IsRaisedUnlessIdle old new advance.Idle = new ≡ old
IsRaisedUnlessIdle old new _ = IsRaised old new
