use Rattle.std.proofs.Common.{false}
use Rattle.hp_views.specs.View.{sight}
use Rattle.hp_adoption.specs.LinkPlans.{close_link_plan}
use Rattle.hp_acts.specs.Usual.{formatting_plan}
use Rattle.hp_acts.proofs.UsualRuns.{carries_failed, carries_next}
use Rattle.hp_acts.proofs.usual.open_link.Goals as goal

pub returns-in_err-close_link : goal.returns-in_err-close_link
returns-in_err-close_link g c =
    carries_failed c.from_residual.result c.in_err-close_link.field-0.0 (sight g.B.Below.heard c.args.view.now) (sight g.B.Below.heard c.close_link.new.view)
    (close_link_plan false) (formatting_plan c.args.tag.now) c.from_residual.ensures.1 c.in_err-close_link.ensures

pub returns : goal.returns
returns g c =
    carries_next c.open_formatting.result (sight g.B.Below.heard c.args.view.now) (sight g.B.Below.heard c.close_link.new.view) (sight g.B.Below.heard c.open_formatting.new.view)
    (close_link_plan false) (formatting_plan c.args.tag.now) c.in_ok-close_link.ensures c.open_formatting.ensures
