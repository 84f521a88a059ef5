use Rattle.std.proofs.Common.{◌++◌, ◌∙◌, List, ap, decimal, ℕ}
use Rattle.hp_program.proofs.Noted.{carried_on, cut_short, noted_as}
use Rattle.hp_program.proofs.notes.write_number.Goals as goal

pub returns-in-Ok : goal.returns-in-Ok
returns-in-Ok g c =
    carried_on c.args.before.now (decimal c.args.number ++ c.args.behind.now) _ _ _ _ _ _ c.in-Ok.ensures.whole c.in-Ok.ensures.no_fault
    (noted_as _ _ _ (ap (λ (digits : List ℕ). digits ++ c.args.behind.now) (c.as_bytes-digits.ensures.value ∙ c.format.ensures.text)) c.write_pair.ensures)

pub returns-in-Err : goal.returns-in-Err
returns-in-Err g c = cut_short c.args.before.now _ c.in-Err.field-0.taken _ _ _ _ c.in-Err.ensures.proper c.in-Err.ensures.part c.in-Err.ensures.failed
