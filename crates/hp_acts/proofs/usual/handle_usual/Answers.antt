use Rattle.hp_views.specs.View.{sight}
use Rattle.hp_acts.proofs.UsualRuns.{usual_done, usual_refused}
use Rattle.hp_acts.proofs.usual.handle_usual.Goals as goal

pub returns-in-Ok : goal.returns-in-Ok
returns-in-Ok g c = λ n few. usual_done (sight g.B.Below.heard c.args.view.now) (sight g.B.Below.heard c.carry_usual.new.view) c.args.row c.args.token.now n c.requires few c.in-Ok.ensures

pub returns-in-Err : goal.returns-in-Err
returns-in-Err g c = λ n few. usual_refused c.in-Err.refused (sight g.B.Below.heard c.args.view.now) (sight g.B.Below.heard c.carry_usual.new.view) c.args.row c.args.token.now n c.requires few c.in-Err.ensures
