use Rattle.std.proofs.Common.{◌-◌}
use Rattle.hp_control.specs.Running.{Partway}
use Rattle.hp_views.specs.View.{split_of}
use Rattle.hp_adoption.specs.AdoptPlans.{turns_plan}
use Rattle.hp_adoption.proofs.turns.turns.Given as goal

abbrev pub invariant-loop-turn : goal.invariant-loop-turn
invariant-loop-turn g l = Partway (g.B.Below.heard l.initial.view.below) (g.B.Below.heard l.view.below) (turns_plan 8 l.fostering l.name (split_of l.initial.view)) (turns_plan (8 - l._turn) l.fostering l.name (split_of l.view))
