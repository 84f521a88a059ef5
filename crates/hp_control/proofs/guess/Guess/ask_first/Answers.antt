use Rattle.std.proofs.Common.{List, subst, sym}
use Rattle.hp_control.specs.declared.question.Kept.{Kept}
use Rattle.hp_control.specs.Guessing.{AreSaid}
use Rattle.hp_control.specs.Remembering.{WereAsked}
use Rattle.hp_control.proofs.Once.{said_more}
use Rattle.hp_control.proofs.RememberingLemmas.{were_more}
use Rattle.hp_control.proofs.guess.Guess.ask_first.Goals as goal

pub invariant_of-self-2 : goal.invariant_of-self-2
invariant_of-self-2 g c =
    let says = g.P.Predictor.says c.self.inside.predictor in
    let pair : Kept = record { question = c.args.question; answer = c.in_ok-answer.answer } in
    let P : List Kept → Type 0 = λ kept. AreSaid says kept × WereAsked says kept c.self.inside.remembered in
    subst P (sym c.in_ok-add.ensures.ok) (said_more says c.self.inside.pairs pair c.self.invariant.0 c.in_ok-answer.ensures, were_more says c.self.inside.pairs pair c.self.inside.remembered c.self.invariant.1)
