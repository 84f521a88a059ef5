use Rattle.std.proofs.Common.{◌-◌}
use Rattle.hp_control.specs.Running.{Partway}
use Rattle.hp_acts.specs.Carrying.{reached}
use Rattle.hp_acts.specs.HandlePlans.{turns_plan}
use Rattle.hp_acts.proofs.turns.repeat.Given as goal

abbrev pub invariant-loop : goal.invariant-loop
invariant-loop g l =
    Partway (g.B.Below.heard l.fn.view.below) (g.B.Below.heard l.view.below) (turns_plan l.fn.most l.fn.turn.token (reached l.fn.view l.fn.turn)) (turns_plan (l.fn.most - l.counter) l.turn.token (reached l.view l.turn))
