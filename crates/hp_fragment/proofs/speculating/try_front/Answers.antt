use Rattle.std.proofs.Common.{refl, subst, sym}
use Rattle.std.specs.Prelude.{IfOk}
use Rattle.hp_control.specs.declared.question.Answer.{Answer}
use Rattle.hp_control.specs.declared.question.Question.{Question}
use Rattle.hp_views.specs.View.{split_of}
use Rattle.hp_fragment.proofs.Covering.{nothing-reaches}
use Rattle.hp_fragment.proofs.Guesses.{nothing-guessed, says-stay}
use Rattle.hp_fragment.specs.Guessing.{IsReached, IsTried}
use Rattle.hp_fragment.proofs.speculating.try_front.Goals.{in-Resting, in_default+in_ok-cover_nothing-in_default}
use Rattle.hp_fragment.proofs.speculating.try_front.Goals as goal

pub returns : goal.returns
returns g c =
    elim c.match-told.branch [
      | in-Resting w ↦
          subst (λ r. IfOk r (IsTried (g.P.Predictor.says c.args.predictor) c.args.text.now c.args.front.now)) (sym w.result-is)
          (subst (λ (x : Question → Answer). IfOk w.read_front.result (IsTried x c.args.text.now c.args.front.now))
          (says-stay g.P.Predictor.says c.args.predictor c.new.result c.in_ok-view.view.below (split_of c.in_ok-view.view) c.in_ok-view.told c.new.ensures c.in_ok-view.ensures) w.read_front.ensures)
      | in_default+in_ok-cover_nothing-in_default w ↦
          subst (λ r. IfOk r (IsTried (g.P.Predictor.says c.args.predictor) c.args.text.now c.args.front.now)) (sym w.result-is)
          (subst (IsReached (g.P.Predictor.says c.args.predictor) c.args.text.now c.args.front.now) (sym w.in_ok-cover_nothing-in_default.ensures) (
            nothing-guessed g.P.Predictor.says c.args.predictor c.new.result c.in_ok-view.view.below (split_of c.in_ok-view.view) c.in_ok-view.told c.new.ensures c.in_ok-view.ensures c.args.text.now _ refl refl refl,
            nothing-reaches g.P.Predictor.says c.args.predictor c.new.result c.in_ok-view.view.below (split_of c.in_ok-view.view) c.in_ok-view.told c.new.ensures c.in_ok-view.ensures w.in_default.not-Resting c.readings_alike.ensures.alike c.answers_are_right.ensures.start c.answers_tell.ensures.once c.args.front.now,
          ))
    ]
