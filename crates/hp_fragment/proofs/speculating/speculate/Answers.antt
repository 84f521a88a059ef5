use Rattle.hp_fragment.proofs.Covering.{reached-first}
use Rattle.hp_fragment.proofs.speculating.speculate.Goals as goal

pub returns-clause-guess : goal.returns-clause-guess
returns-clause-guess g c = reached-first (g.P.Predictor.says c.args.predictor) c.text_in.result.now c.in_ok-guessed.guessed c.in_ok-guessed.ensures
