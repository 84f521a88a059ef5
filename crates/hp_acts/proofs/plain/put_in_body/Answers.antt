use Rattle.std.proofs.Common.{false, Ok, ap, sym}
use Rattle.hp_control.specs.declared.edit.Child.TheVariants as child
use Rattle.hp_elements.specs.declared.token.CharClass.TheVariants.{Other}
use Rattle.hp_adoption.specs.ReconPlans.{reconstruct_plan}
use Rattle.hp_views.specs.FieldPlans.{frameset_plan}
use Rattle.hp_views.specs.PlacePlans.{put_plan}
use Rattle.hp_views.specs.View.{sight, split_of}
use Rattle.hp_acts.specs.Plain.{put_text_plan}
use Rattle.hp_acts.proofs.PlainRuns.{put_done, put_failed}
use Rattle.hp_acts.proofs.UsualRuns.{carries_as, carries_failed, carries_next}
use Rattle.hp_acts.proofs.plain.put_in_body.Goals as goal

pub returns-in_err-reconstruct : goal.returns-in_err-reconstruct
returns-in_err-reconstruct g c =
    carries_failed c.from_residual.result c.in_err-reconstruct.field-0.0 (sight g.B.Below.heard c.args.view.now) (sight g.B.Below.heard c.reconstruct.new.view)
    (reconstruct_plan false) (put_text_plan c.args.class c.args.text) c.from_residual.ensures.1 c.in_err-reconstruct.ensures

pub returns-in_err-put : goal.returns-in_err-put
returns-in_err-put g c =
    carries_next c.from_residual-in_err-put.result (sight g.B.Below.heard c.args.view.now) (sight g.B.Below.heard c.reconstruct.new.view) (sight g.B.Below.heard c.put.new.self)
    (reconstruct_plan false) (put_text_plan c.args.class c.args.text) c.in_ok-reconstruct.ensures
    (put_failed c.from_residual-in_err-put.result c.in_err-put.field-0.0 (sight g.B.Below.heard c.reconstruct.new.view) (sight g.B.Below.heard c.put.new.self) c.args.class c.args.text c.from_residual-in_err-put.ensures.1 c.in_err-put.ensures)

pub returns-in-Other : goal.returns-in-Other
returns-in-Other g c =
    carries_next c.frameset_not_ok.result (sight g.B.Below.heard c.args.view.now) (sight g.B.Below.heard c.reconstruct.new.view) (sight g.B.Below.heard c.frameset_not_ok.new.self)
    (reconstruct_plan false) (put_text_plan c.args.class c.args.text) c.in_ok-reconstruct.ensures
    (carries_as c.frameset_not_ok.result (sight g.B.Below.heard c.reconstruct.new.view) (sight g.B.Below.heard c.frameset_not_ok.new.self) (put_text_plan Other c.args.text) (put_text_plan c.args.class c.args.text) (ap (λ k. put_text_plan k c.args.text) (sym c.in-Other.is))
    (carries_next c.frameset_not_ok.result (sight g.B.Below.heard c.reconstruct.new.view) (sight g.B.Below.heard c.put.new.self) (sight g.B.Below.heard c.frameset_not_ok.new.self)
    (put_plan false (child.Text c.args.text)) frameset_plan c.in_ok-put.ensures c.frameset_not_ok.ensures))

pub returns-in_default : goal.returns-in_default
returns-in_default g c =
    carries_next (Ok tt) (sight g.B.Below.heard c.args.view.now) (sight g.B.Below.heard c.reconstruct.new.view) (sight g.B.Below.heard c.put.new.self)
    (reconstruct_plan false) (put_text_plan c.args.class c.args.text) c.in_ok-reconstruct.ensures
    (put_done (g.B.Below.heard c.reconstruct.new.view.below) (g.B.Below.heard c.put.new.self.below) c.args.class c.args.text (split_of c.reconstruct.new.view) (split_of c.put.new.self) c.in_default.not-Other c.in_ok-put.ensures)
