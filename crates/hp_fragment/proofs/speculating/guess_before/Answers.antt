use Rattle.std.proofs.Common.{refl, subst, sym}
use Rattle.hp_tokens.proofs.Told.{IfOk_then}
use Rattle.hp_views.specs.View.{split_of}
use Rattle.hp_fragment.proofs.Covering.{nothing-before, reached-before}
use Rattle.hp_fragment.proofs.Guesses.{nothing-guessed}
use Rattle.hp_fragment.specs.Guessing.{IsReached, IsTried}
use Rattle.hp_fragment.proofs.speculating.guess_before.Goals as goal

pub returns-in-Reached : goal.returns-in-Reached
returns-in-Reached g c =
    reached-before c.firsts.ensures.once c.firsts.ensures.bytes c.readings_alike.ensures.alike c.readings_alike.ensures.singly c.answers_are_right.ensures.before (g.P.Predictor.says c.args.predictor) c.args.text.now c.front_of-front.result.now c.args.at c.utf8.text c.requires.crosses c.front_of-front.ensures.front c.front_of-front.ensures.long
    c.in-Reached.guessed (subst (IsTried (g.P.Predictor.says c.args.predictor) c.args.text.now c.front_of-front.result.now) c.in-Reached.is c.in_ok-guessed.ensures)

pub returns-in_ok-view-in-Crossed : goal.returns-in_ok-view-in-Crossed
returns-in_ok-view-in-Crossed g c =
    IfOk_then c.cover_nothing.result c.cover_nothing.ensures (λ guessed is. subst (IsReached (g.P.Predictor.says c.args.predictor) c.args.text.now c.args.text.now) (sym is) (
      nothing-guessed g.P.Predictor.says c.args.predictor c.new.result c.in_ok-view-in-Crossed.view.below (split_of c.in_ok-view-in-Crossed.view) c.in_ok-view-in-Crossed.field-0-1 c.new.ensures c.in_ok-view-in-Crossed.ensures c.args.text.now _ refl refl refl,
      nothing-before c.firsts.ensures.once c.firsts.ensures.bytes c.readings_alike.ensures.alike c.readings_alike.ensures.singly c.answers_are_right.ensures.before (g.P.Predictor.says c.args.predictor) c.args.text.now c.front_of-front.result.now c.args.at _ c.utf8.text c.requires.crosses c.front_of-front.ensures.front c.front_of-front.ensures.long
          (subst (IsTried (g.P.Predictor.says c.args.predictor) c.args.text.now c.front_of-front.result.now) c.in-Crossed.is c.in_ok-guessed.ensures) c.in_ok-view-in-Crossed.view.below.kept,
    ))
