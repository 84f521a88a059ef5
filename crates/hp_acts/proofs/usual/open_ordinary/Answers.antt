use Rattle.std.proofs.Common.{false}
use Rattle.hp_views.specs.View.{sight}
use Rattle.hp_adoption.specs.ReconPlans.{reconstruct_plan}
use Rattle.hp_views.specs.PlacePlans.{insert_plan}
use Rattle.hp_acts.proofs.UsualRuns.{carries_failed, carries_next}
use Rattle.hp_acts.proofs.usual.open_ordinary.Goals as goal

pub returns-in_err-reconstruct : goal.returns-in_err-reconstruct
returns-in_err-reconstruct g c =
    carries_failed c.from_residual.result c.in_err-reconstruct.field-0.0 (sight g.B.Below.heard c.args.view.now) (sight g.B.Below.heard c.reconstruct.new.view)
    (reconstruct_plan false) (insert_plan false c.args.tag.now) c.from_residual.ensures.1 c.in_err-reconstruct.ensures

pub returns : goal.returns
returns g c =
    carries_next c.insert.result (sight g.B.Below.heard c.args.view.now) (sight g.B.Below.heard c.reconstruct.new.view) (sight g.B.Below.heard c.insert.new.view)
    (reconstruct_plan false) (insert_plan false c.args.tag.now) c.in_ok-reconstruct.ensures c.insert.ensures
