use Rattle.std.proofs.Common.{ap, sym, ◌∙◌}
use Rattle.hp_views.specs.View.{split_of}
use Rattle.hp_views.proofs.AtOnce.{through_found, through_stopped}
use Rattle.hp_views.proofs.view.View.through.Goals.{in-Found, in-Stopped}
use Rattle.hp_views.proofs.view.View.through.Goals as goal

pub returns : goal.returns
returns g c =
    let heard = g.B.Below.heard in
    let v = c.args.self.now in
    let left = c.match-walk.self in
    elim c.match-walk.branch [
      | in-Found w ↦ through_found c.args.goals c.args.stops (split_of v) (split_of left) w.in-Found.depth (heard v.below) (heard left.below)
          (sym c.element_walk-walk.ensures.walk ∙ w.in-Found.is) (ap (λ s. split_of s) w.self-is ∙ w.pop_own.ensures.split) (ap (λ s. heard s.below) w.self-is ∙ ap heard w.pop_own.ensures.below)
      | in-Stopped w ↦ through_stopped c.args.goals c.args.stops (split_of v) (split_of left) (heard v.below) (heard left.below)
          (sym c.element_walk-walk.ensures.walk ∙ w.in-Stopped.is) (ap (λ s. split_of s) w.self-is) (ap (λ s. heard s.below) w.self-is)
    ]
