use Rattle.std.proofs.Common.{arith, refl}
use Rattle.hp_program.proofs.modes.put_bytes.Goals as goal

pub returns-in-Err-clause-answer : goal.returns-in-Err-clause-answer
returns-in-Err-clause-answer g c =
    let n = c.in-Err.fault.taken in
    (c.args.text.now, refl, (n, record { part = (n, c.in-Err.ensures.proper, c.in-Err.ensures.part); count = omega arith }, c.in-Err.ensures.failed, refl))
