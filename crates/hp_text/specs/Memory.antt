-- Devices in memory, whose bytes, room and failing calls are told.
use Rattle.std.specs.Prelude.{ℕ, ◌-◌, ◌==◌, ◌||◌, ◌&&◌, not, Bool, min, List, ◌++◌, length, take, drop, Result, Ok, Err, if◌then◌else◌}
use Rattle.std.specs.List.{list_any}
use Rattle.hp_text.specs.declared.devices.Failed.{Failed}
use Rattle.hp_text.specs.Device.{next_count}

-- a source: the bytes that are left, the most that a call gives, the numbers of the calls that fail, the
-- number of the next call, and how many calls failed
pub record SourceState : Type 0 where
  pub left : List ℕ
  pub step : ℕ
  pub failing : List ℕ
  pub calls : ℕ
  pub faults : ℕ

-- the next call fails
abbrev pub read_fails : SourceState → Bool
read_fails s = list_any (λ call. call == s.calls) s.failing

-- how many bytes the next call gives into so much room, if it doesn't fail
abbrev pub given_len : SourceState → ℕ → ℕ
given_len s room = min (min room s.step) (length s.left)

-- what it answers
abbrev pub source_answer : SourceState → ℕ → Result ℕ Failed
source_answer s room = if read_fails s then Err (record {}) else Ok (given_len s room)

-- the source after the call
abbrev pub after_read : SourceState → ℕ → SourceState
after_read s room = if read_fails s
    then record s { calls = next_count s.calls; faults = next_count s.faults }
    else record s { left = drop (given_len s room) s.left; calls = next_count s.calls }

-- a sink: what it took, the room that is left, the numbers of the calls that fail, the number of the
-- next call, and how many calls failed
pub record SinkState : Type 0 where
  pub taken : List ℕ
  pub room : ℕ
  pub failing : List ℕ
  pub calls : ℕ
  pub faults : ℕ

-- the next call, with a piece of so many bytes, fails: it is one of the failing ones, or finds no room
abbrev pub write_fails : SinkState → ℕ → Bool
write_fails s len = list_any (λ call. call == s.calls) s.failing || ((s.room == 0) && not (len == 0))

-- what it answers: a failure, or how many bytes it takes, which is as many as fit
abbrev pub sink_answer : SinkState → ℕ → Result ℕ Failed
sink_answer s len = if write_fails s len then Err (record {}) else Ok (min len s.room)

-- the sink after the call
abbrev pub after_write : SinkState → List ℕ → SinkState
after_write s piece = if write_fails s (length piece)
    then record s { calls = next_count s.calls; faults = next_count s.faults }
    else record s {
      taken = s.taken ++ take (min (length piece) s.room) piece;
      room = s.room - min (length piece) s.room;
      calls = next_count s.calls;
    }
