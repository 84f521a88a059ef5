use Rattle.std.proofs.Common.{arith}
use Rattle.hp_program.proofs.output.put_text.Goals as goal

pub returns-in-Err-clause-written : goal.returns-in-Err-clause-written
returns-in-Err-clause-written g c = (record { part = (c.in-Err.fault.taken, c.in-Err.ensures.proper, c.in-Err.ensures.part); count = omega arith }, c.in-Err.ensures.failed)
