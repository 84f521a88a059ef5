use Rattle.hp_views.specs.View.{sight}
use Rattle.hp_acts.proofs.TableRuns.{continue_done, continue_refused}
use Rattle.hp_acts.proofs.table_text.go_on.Goals as goal

pub returns-in-Ok : goal.returns-in-Ok
returns-in-Ok g c = continue_done (sight g.B.Below.heard c.args.view.now) (sight g.B.Below.heard c.append_pending.new.view) c.args.token.now c.requires c.in-Ok.ensures.plan

pub returns-in-Err : goal.returns-in-Err
returns-in-Err g c = continue_refused c.in-Err.refused (sight g.B.Below.heard c.args.view.now) (sight g.B.Below.heard c.append_pending.new.view) c.args.token.now c.requires c.in-Err.ensures.plan
