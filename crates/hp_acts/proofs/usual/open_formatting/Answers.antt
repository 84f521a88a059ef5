use Rattle.std.proofs.Common.{false, Ok, ap, subst}
use Rattle.hp_elements.specs.declared.tag.Tag.{Tag}
use Rattle.hp_control.specs.Plan.{Runs}
use Rattle.hp_adoption.specs.ArkPlans.{append_to_list_plan}
use Rattle.hp_adoption.specs.ReconPlans.{reconstruct_plan}
use Rattle.hp_views.specs.PlacePlans.{insert_plan}
use Rattle.hp_views.specs.View.{sight, split_of}
use Rattle.hp_acts.specs.Usual.{listed_plan}
use Rattle.hp_acts.proofs.UsualRuns.{carries_as, carries_failed, carries_next}
use Rattle.hp_acts.proofs.usual.open_formatting.Goals as goal

pub returns-in_err-reconstruct : goal.returns-in_err-reconstruct
returns-in_err-reconstruct g c =
    carries_failed c.from_residual.result c.in_err-reconstruct.field-0.0 (sight g.B.Below.heard c.args.view.now) (sight g.B.Below.heard c.reconstruct.new.view)
    (reconstruct_plan false) (listed_plan c.args.tag.now) c.from_residual.ensures.1 c.in_err-reconstruct.ensures

pub returns-in_err-insert : goal.returns-in_err-insert
returns-in_err-insert g c =
    carries_next c.from_residual-in_err-insert.result (sight g.B.Below.heard c.args.view.now) (sight g.B.Below.heard c.reconstruct.new.view) (sight g.B.Below.heard c.insert.new.self)
    (reconstruct_plan false) (listed_plan c.args.tag.now) c.in_ok-reconstruct.ensures
    (carries_as c.from_residual-in_err-insert.result (sight g.B.Below.heard c.reconstruct.new.view) (sight g.B.Below.heard c.insert.new.self) (listed_plan c.in_ok-own.own) (listed_plan c.args.tag.now) (ap listed_plan c.in_ok-own.ensures)
    (carries_failed c.from_residual-in_err-insert.result c.in_err-insert.field-0.0 (sight g.B.Below.heard c.reconstruct.new.view) (sight g.B.Below.heard c.insert.new.self)
    (insert_plan false c.in_ok-own.own) (append_to_list_plan c.in_ok-own.own) c.from_residual-in_err-insert.ensures.1 c.in_err-insert.ensures))

pub returns : goal.returns
returns g c =
    carries_next c.append_to_list.result (sight g.B.Below.heard c.args.view.now) (sight g.B.Below.heard c.reconstruct.new.view) (sight g.B.Below.heard c.append_to_list.new.view)
    (reconstruct_plan false) (listed_plan c.args.tag.now) c.in_ok-reconstruct.ensures
    (carries_next c.append_to_list.result (sight g.B.Below.heard c.reconstruct.new.view) (sight g.B.Below.heard c.insert.new.self) (sight g.B.Below.heard c.append_to_list.new.view)
    (insert_plan false c.args.tag.now) (append_to_list_plan c.args.tag.now) (subst (λ (t : Tag). Runs (g.B.Below.heard c.reconstruct.new.view.below) (g.B.Below.heard c.insert.new.self.below) (insert_plan false t (split_of c.reconstruct.new.view)) (Ok (split_of c.insert.new.self))) c.in_ok-own.ensures c.in_ok-insert.ensures)
    (carries_as c.append_to_list.result (sight g.B.Below.heard c.insert.new.self) (sight g.B.Below.heard c.append_to_list.new.view) (append_to_list_plan c.taken_tag.result) (append_to_list_plan c.args.tag.now) (ap append_to_list_plan c.taken_tag.ensures) c.append_to_list.ensures))
