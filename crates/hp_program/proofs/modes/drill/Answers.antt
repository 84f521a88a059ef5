use Rattle.std.proofs.Common.{subst, sym}
use Rattle.hp_program.specs.Modes.{IsDrill}
use Rattle.hp_program.proofs.Answered.{written_as}
use Rattle.hp_program.proofs.modes.drill.Goals as goal

pub returns-in-Ok-clause-answer : goal.returns-in-Ok-clause-answer
returns-in-Ok-clause-answer g c =
    let a = c.args.asked in
    written_as (IsDrill a.seed a.bytes a.workers a.chunk) _ _ _ _ (subst (IsDrill a.seed a.bytes a.workers a.chunk) (sym c.as_slice.ensures.value) c.in-Ok.ensures) c.put_bytes.ensures.answer
