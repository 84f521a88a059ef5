use Rattle.hp_views.specs.ClosingPlans.{close_description_plan}
use Rattle.hp_views.specs.FieldPlans.{frameset_plan}
use Rattle.hp_views.specs.View.{sight}
use Rattle.hp_acts.specs.Usual.{block_plan, description_after_plan}
use Rattle.hp_acts.proofs.UsualRuns.{carries_failed, carries_next}
use Rattle.hp_acts.proofs.usual.open_description.Goals as goal

pub returns-in_err-frameset_not_ok : goal.returns-in_err-frameset_not_ok
returns-in_err-frameset_not_ok g c =
    carries_failed c.from_residual.result c.in_err-frameset_not_ok.field-0.0 (sight g.B.Below.heard c.args.view.now) (sight g.B.Below.heard c.frameset_not_ok.new.self)
    frameset_plan (description_after_plan c.args.tag.now) c.from_residual.ensures.1 c.in_err-frameset_not_ok.ensures

pub returns-in_err-close_description : goal.returns-in_err-close_description
returns-in_err-close_description g c =
    carries_next c.from_residual-in_err-close_description.result (sight g.B.Below.heard c.args.view.now) (sight g.B.Below.heard c.frameset_not_ok.new.self) (sight g.B.Below.heard c.close_description.new.self)
    frameset_plan (description_after_plan c.args.tag.now) c.in_ok-frameset_not_ok.ensures (carries_failed c.from_residual-in_err-close_description.result c.in_err-close_description.field-0.0 (sight g.B.Below.heard c.frameset_not_ok.new.self) (sight g.B.Below.heard c.close_description.new.self)
    close_description_plan (block_plan c.args.tag.now) c.from_residual-in_err-close_description.ensures.1 c.in_err-close_description.ensures)

pub returns : goal.returns
returns g c =
    carries_next c.open_block.result (sight g.B.Below.heard c.args.view.now) (sight g.B.Below.heard c.frameset_not_ok.new.self) (sight g.B.Below.heard c.open_block.new.view)
    frameset_plan (description_after_plan c.args.tag.now) c.in_ok-frameset_not_ok.ensures (carries_next c.open_block.result (sight g.B.Below.heard c.frameset_not_ok.new.self) (sight g.B.Below.heard c.close_description.new.self) (sight g.B.Below.heard c.open_block.new.view)
    close_description_plan (block_plan c.args.tag.now) c.in_ok-close_description.ensures c.open_block.ensures)
