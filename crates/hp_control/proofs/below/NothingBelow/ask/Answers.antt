use Rattle.std.proofs.Common.{◌≡◌, None, refl, ap, sym}
use Rattle.std.specs.Prelude.{Ok}
use Rattle.std.proofs.lemmas.Result.{IfOk-weaker}
use Rattle.hp_control.specs.declared.question.Answer.{Answer}
use Rattle.hp_control.specs.Nothing.{nothing}
use Rattle.hp_control.specs.Plan.{Heard, Runs, asks, gives}
use Rattle.hp_control.specs.Truth.{answer_of}
use Rattle.hp_control.proofs.below.NothingBelow.ask.Goals as goal

pub returns-clause-asked : goal.returns-clause-asked
returns-clause-asked c =
    let h : Heard = record { says = answer_of nothing; kept = None } in
    IfOk-weaker c.answer_nothing-answer.result (λ (answer : Answer). answer ≡ answer_of nothing c.args.question) (λ (answer : Answer). Runs h h (asks c.args.question gives) (Ok answer)) (λ answer e. record { ends = ap Ok (sym e); noted = refl }) c.answer_nothing-answer.ensures
