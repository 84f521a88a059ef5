use Rattle.hp_views.specs.ListPlans.{append_plan}
use Rattle.hp_views.specs.View.{sight}
use Rattle.hp_adoption.specs.ArkPlans.{room_plan}
use Rattle.hp_views.proofs.Carrying.{carries_next, carries_failed}
use Rattle.hp_adoption.proofs.ark.append_with_room.Goals as goal

pub returns-in_err-make_room : goal.returns-in_err-make_room
returns-in_err-make_room g c =
    carries_failed c.from_residual.result c.in_err-make_room.field-0.0 (sight g.B.Below.heard c.args.view.now) (sight g.B.Below.heard c.make_room.new.view)
    (room_plan c.args.tag) (append_plan c.args.tag) c.from_residual.ensures.1 c.in_err-make_room.ensures

pub returns : goal.returns
returns g c =
    carries_next c.append_entry.result (sight g.B.Below.heard c.args.view.now) (sight g.B.Below.heard c.make_room.new.view) (sight g.B.Below.heard c.append_entry.new.self)
    (room_plan c.args.tag) (append_plan c.args.tag) c.in_ok-make_room.ensures c.append_entry.ensures
