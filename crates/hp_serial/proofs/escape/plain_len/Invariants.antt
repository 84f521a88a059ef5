use Rattle.std.proofs.Common.{length, ◌-◌, ◌≤◌, take}
use Rattle.hp_serial.specs.Bytes.{ArePlain}
use Rattle.hp_serial.proofs.escape.plain_len.Given as goal

-- the bytes so far are plain
abbrev pub invariant-loop-len : goal.invariant-loop-len
invariant-loop-len l = record { within : l.len ≤ length l.bytes; plain : ArePlain l.place (take l.len l.bytes) }

abbrev pub decreases-loop-len : goal.decreases-loop-len
decreases-loop-len l = length l.bytes - l.len
