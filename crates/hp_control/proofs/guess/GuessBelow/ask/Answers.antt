use Rattle.std.proofs.Common.{ap, refl, subst, sym}
use Rattle.std.proofs.lemmas.Result.{IfOk-weaker}
use Rattle.hp_control.specs.Guessing.{AreSaid, heard_by}
use Rattle.hp_control.specs.Plan.{Heard}
use Rattle.hp_control.proofs.Once.{runs_again}
use Rattle.hp_control.proofs.guess.GuessBelow.ask.Goals as goal

pub returns-in-Some-clause-asked : goal.returns-in-Some-clause-asked
returns-in-Some-clause-asked g c =
    let says = g.P.Predictor.says in
    let turned = ap (heard_by says) c.self.view_is in
    let said = subst (λ (h : Heard). AreSaid h.says c.self.inside.pairs) turned c.self.invariant.0 in
    let h = heard_by says c.args.self.now in
    IfOk-weaker c.copy-answer.result _ _ (λ answer e.
    runs_again h h c.self.inside.pairs _ c.in-Some.pair.now c.args.question answer
    refl (ap (λ (h : Heard). h.kept) (sym turned)) said c.in-Some.ensures.found.0 c.in-Some.ensures.found.1 e) c.copy-answer.ensures

pub returns-in-Some-find-clause-asked : goal.returns-in-Some-find-clause-asked
returns-in-Some-find-clause-asked g c =
    let says = g.P.Predictor.says in
    let turned = ap (heard_by says) c.self.view_is in
    let said = subst (λ (h : Heard). AreSaid h.says c.self.inside.pairs) turned c.self.invariant.0 in
    IfOk-weaker c.copy-answer-in-Some-find.result _ _ (λ answer e.
    runs_again (heard_by says c.args.self.now) _ c.self.inside.pairs c.in-Some-find.place c.in-Some-find.pair.now c.args.question answer
    turned (ap (λ (h : Heard). h.kept) (sym turned)) said c.in-Some-find.ensures.found.0 c.in-Some-find.ensures.found.1 e) c.copy-answer-in-Some-find.ensures
