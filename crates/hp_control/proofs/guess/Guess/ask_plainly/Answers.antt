use Rattle.std.proofs.Common.{refl}
use Rattle.std.proofs.lemmas.Result.{IfOk-weaker}
use Rattle.hp_control.specs.Guessing.{heard_by}
use Rattle.hp_control.proofs.RememberingLemmas.{asked_then}
use Rattle.hp_control.proofs.guess.Guess.ask_plainly.Goals as goal

pub returns-clause-was_asked : goal.returns-clause-was_asked
returns-clause-was_asked g c =
    let says = g.P.Predictor.says in
    IfOk-weaker c.ask.result _ _ (λ answer. asked_then (heard_by says c.args.self.now) (heard_by says c.ask.new.self) c.args.self.now.kept c.ask.new.self.kept c.args.question answer refl refl) c.ask.ensures.asked
