use Rattle.std.proofs.Common.{◌-◌}
use Rattle.hp_control.specs.Running.{Partway}
use Rattle.hp_views.specs.View.{split_of}
use Rattle.hp_adoption.specs.ReconPlans.{renew_down_plan}
use Rattle.hp_adoption.proofs.reconstruction.renew_down.Given as goal

abbrev pub invariant-loop-turn : goal.invariant-loop-turn
invariant-loop-turn g l = Partway (g.B.Below.heard l.initial.view.below) (g.B.Below.heard l.view.below) (renew_down_plan l.fostering l.count (split_of l.initial.view)) (renew_down_plan l.fostering (l.count - l.turn) (split_of l.view))
