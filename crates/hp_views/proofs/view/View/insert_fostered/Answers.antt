use Rattle.std.specs.Prelude.{true}
use Rattle.hp_control.specs.Plan.{gives}
use Rattle.hp_views.specs.PlacePlans.{place_plan, insert_at}
use Rattle.hp_views.specs.View.{sight}
use Rattle.hp_views.proofs.Carrying.{carries_then}
use Rattle.hp_views.proofs.view.View.insert_fostered.Goals as goal

pub returns : goal.returns
returns g c =
    carries_then c.insert_at.result (sight g.B.Below.heard c.args.self.now) (sight g.B.Below.heard c.place.new.self) (sight g.B.Below.heard c.insert_at.new.self)
    (place_plan true) (λ v where_. gives (insert_at c.args.tag v where_)) c.in_ok-place.place c.in_ok-place.ensures c.insert_at.ensures
