use Rattle.std.proofs.Common.{ap, sym, ◌∙◌}
use Rattle.hp_views.specs.Asking.{ask_seen}
use Rattle.hp_views.specs.StackPlans.{seen_on, seen_plan}
use Rattle.hp_views.specs.View.{sight}
use Rattle.hp_views.proofs.Carrying.{answers_as}
use Rattle.hp_views.proofs.view.View.is_seen.Goals as goal

pub returns-in-PastAll : goal.returns-in-PastAll
returns-in-PastAll g c =
    let v = c.args.self.now in
    answers_as c.seen_below.result (sight g.B.Below.heard v) (sight g.B.Below.heard c.seen_below.new.self) (λ v. ask_seen v.change.popped c.args.goals c.args.stops) (seen_plan c.args.goals c.args.stops)
    (ap (seen_on v.change.popped c.args.goals c.args.stops) (sym c.in-PastAll.is ∙ c.element_walk-walk.ensures.walk)) c.seen_below.ensures
