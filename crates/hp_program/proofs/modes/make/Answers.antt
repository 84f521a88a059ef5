use Rattle.std.proofs.Common.{◌≡◌, ◌∙◌, List, ℕ}
use Rattle.hp_make.specs.Pages.{page_of}
use Rattle.hp_program.proofs.Answered.{written_as}
use Rattle.hp_program.proofs.modes.make.Goals as goal

pub returns-in-Ok-clause-answer : goal.returns-in-Ok-clause-answer
returns-in-Ok-clause-answer g c = written_as (λ (output : List ℕ). output ≡ page_of c.args.seed c.args.bytes) _ _ _ _ (c.as_slice.ensures.value ∙ c.in-Ok.ensures.exact) c.put_bytes.ensures.answer
