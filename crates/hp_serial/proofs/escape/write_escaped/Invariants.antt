use Rattle.std.proofs.Common.{length, ◌≡◌, ◌++◌}
use Rattle.hp_serial.specs.Bytes.{escaped_bytes}
use Rattle.hp_serial.proofs.escape.write_escaped.Given as goal

-- the bytes so far were written
abbrev pub invariant-loop-rest : goal.invariant-loop-rest
invariant-loop-rest l = l.out.items ++ escaped_bytes l.place l.rest ≡ l.initial.out.items ++ escaped_bytes l.place l.text

abbrev pub decreases-loop-rest : goal.decreases-loop-rest
decreases-loop-rest l = length l.rest
