use Rattle.hp_control.specs.Plan.{gives}
use Rattle.hp_views.specs.PlacePlans.{place_plan, put_at}
use Rattle.hp_views.specs.View.{sight}
use Rattle.hp_views.proofs.Carrying.{carries_then}
use Rattle.hp_views.proofs.view.View.put.Goals as goal

pub returns : goal.returns
returns g c =
    carries_then c.push_edit.result (sight g.B.Below.heard c.args.self.now) (sight g.B.Below.heard c.place.new.self) (sight g.B.Below.heard c.push_edit.new.self)
    (place_plan c.args.fostering) (λ v where_. gives (put_at c.args.child v where_)) c.in_ok-place.place c.in_ok-place.ensures c.push_edit.ensures
