use Rattle.std.proofs.Common.{false}
use Rattle.hp_views.specs.ClosingPlans.{close_paragraph_plan}
use Rattle.hp_views.specs.PlacePlans.{insert_plan}
use Rattle.hp_views.specs.View.{sight}
use Rattle.hp_acts.proofs.UsualRuns.{carries_failed, carries_next}
use Rattle.hp_acts.proofs.usual.open_block.Goals as goal

pub returns-in_err-close_paragraph : goal.returns-in_err-close_paragraph
returns-in_err-close_paragraph g c =
    carries_failed c.from_residual.result c.in_err-close_paragraph.field-0.0 (sight g.B.Below.heard c.args.view.now) (sight g.B.Below.heard c.close_paragraph.new.self)
    close_paragraph_plan (insert_plan false c.args.tag.now) c.from_residual.ensures.1 c.in_err-close_paragraph.ensures

pub returns : goal.returns
returns g c =
    carries_next c.insert.result (sight g.B.Below.heard c.args.view.now) (sight g.B.Below.heard c.close_paragraph.new.self) (sight g.B.Below.heard c.insert.new.view)
    close_paragraph_plan (insert_plan false c.args.tag.now) c.in_ok-close_paragraph.ensures c.insert.ensures
