use Rattle.std.proofs.Common.{List, ℕ, subst, sym}
use Rattle.std.specs.Prelude.{◌≡◌, IfSome}
use Rattle.hp_program.proofs.Answered.{of_bytes, of_refusal}
use Rattle.hp_program.proofs.top.put_page.Goals as goal

pub returns-in-Ok-clause-answer : goal.returns-in-Ok-clause-answer
returns-in-Ok-clause-answer g c =
    of_bytes c.args.asked.now c.args.form.now _ _ c.as_slice.result.now _ _
    (record { told = subst (λ (bytes : List ℕ). IfSome (g.S.Source.left c.args.page.now) (λ left. bytes ≡ left)) (sym c.as_slice.ensures.value) c.in-Ok.ensures.whole; ended = c.in-Ok.ensures.at_end })
    c.put_bytes.ensures.answer

pub returns-in-Err-clause-answer : goal.returns-in-Err-clause-answer
returns-in-Err-clause-answer g c = of_refusal c.args.asked.now c.args.form.now _ _ c.in-Err.refusal c.unread.result c.unread.ensures c.in-Err.ensures.fault c.in-Err.ensures.too_large c.in-Err.ensures.too_large_gives
