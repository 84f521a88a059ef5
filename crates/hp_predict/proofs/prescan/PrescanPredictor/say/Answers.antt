use Rattle.std.proofs.Common.{◌≡◌, subst}
use Rattle.std.specs.Prelude.{IfOk}
use Rattle.hp_control.specs.States.{ControlState}
use Rattle.hp_control.specs.Truth.{answer_of}
use Rattle.hp_control.specs.declared.question.Answer.{Answer}
use Rattle.hp_predict.proofs.prescan.PrescanPredictor.say.Goals as goal

pub returns : goal.returns
returns c = subst (λ (state : ControlState). IfOk c.answer.result (λ (a : Answer). a ≡ answer_of state c.args.question.now)) c.self.view_is c.answer.ensures
