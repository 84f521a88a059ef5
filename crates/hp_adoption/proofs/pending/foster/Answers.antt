use Rattle.std.proofs.Common.{true}
use Rattle.hp_control.specs.declared.edit.Child.TheVariants as child
use Rattle.hp_views.specs.FieldPlans.{frameset_plan}
use Rattle.hp_views.specs.PlacePlans.{put_plan}
use Rattle.hp_views.specs.View.{sight}
use Rattle.hp_adoption.specs.FlushPlans.{fostered_text}
use Rattle.hp_adoption.specs.ReconPlans.{reconstruct_plan}
use Rattle.hp_views.proofs.Carrying.{carries_next, carries_failed}
use Rattle.hp_adoption.proofs.pending.foster.Goals as goal

pub returns-in_err-reconstruct : goal.returns-in_err-reconstruct
returns-in_err-reconstruct g c =
    carries_failed c.from_residual.result c.in_err-reconstruct.field-0.0 (sight g.B.Below.heard c.args.view.now) (sight g.B.Below.heard c.reconstruct.new.view)
    (reconstruct_plan true) (fostered_text c.args.text) c.from_residual.ensures.1 c.in_err-reconstruct.ensures

pub returns-in_err-put : goal.returns-in_err-put
returns-in_err-put g c =
    carries_next c.from_residual-in_err-put.result (sight g.B.Below.heard c.args.view.now) (sight g.B.Below.heard c.reconstruct.new.view) (sight g.B.Below.heard c.put.new.self)
    (reconstruct_plan true) (fostered_text c.args.text) c.in_ok-reconstruct.ensures
    (carries_failed c.from_residual-in_err-put.result c.in_err-put.field-0.0 (sight g.B.Below.heard c.reconstruct.new.view) (sight g.B.Below.heard c.put.new.self)
    (put_plan true (child.Text c.args.text)) frameset_plan c.from_residual-in_err-put.ensures.1 c.in_err-put.ensures)

pub returns : goal.returns
returns g c =
    carries_next c.frameset_not_ok.result (sight g.B.Below.heard c.args.view.now) (sight g.B.Below.heard c.reconstruct.new.view) (sight g.B.Below.heard c.frameset_not_ok.new.self)
    (reconstruct_plan true) (fostered_text c.args.text) c.in_ok-reconstruct.ensures
    (carries_next c.frameset_not_ok.result (sight g.B.Below.heard c.reconstruct.new.view) (sight g.B.Below.heard c.put.new.self) (sight g.B.Below.heard c.frameset_not_ok.new.self)
    (put_plan true (child.Text c.args.text)) frameset_plan c.in_ok-put.ensures
    c.frameset_not_ok.ensures)
