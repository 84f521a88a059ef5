use Rattle.std.proofs.Common.{◌≡◌, ◌+◌, ◌-◌, suc, arith}
use Rattle.hp_views.specs.View.{sight, split_of}
use Rattle.hp_adoption.specs.AdoptPlans.{turns_plan}
use Rattle.hp_adoption.proofs.TurnSteps.{turn_step, turn_ends, turn_refused, turns_done}
use Rattle.hp_adoption.proofs.turns.turns.Goals as goal

pub returns-in-Ok-false : goal.returns-in-Ok-false
returns-in-Ok-false g c =
    let left : 8 - c.loop-turn._turn ≡ suc (8 - (c.loop-turn._turn + 1)) = omega arith in
    turn_ends (g.B.Below.heard c.args.view.now.below) (g.B.Below.heard c.loop-turn.view.below) (g.B.Below.heard c.turn.new.view.below)
    (turns_plan 8 c.args.fostering c.args.name.now (split_of c.args.view.now)) c.args.fostering c.args.name.now (8 - c.loop-turn._turn) (8 - (c.loop-turn._turn + 1))
    (split_of c.loop-turn.view) (split_of c.turn.new.view) c.in-Ok-false.field-0 left c.in-Ok-false.field-0-test c.loop-turn.invariant c.in-Ok-false.ensures

pub returns-in-Err : goal.returns-in-Err
returns-in-Err g c =
    let left : 8 - c.loop-turn._turn ≡ suc (8 - (c.loop-turn._turn + 1)) = omega arith in
    turn_refused c.in-Err.refusal (sight g.B.Below.heard c.args.view.now) (sight g.B.Below.heard c.loop-turn.view) (sight g.B.Below.heard c.turn.new.view)
    (turns_plan 8 c.args.fostering c.args.name.now) c.args.fostering c.args.name.now (8 - c.loop-turn._turn) (8 - (c.loop-turn._turn + 1)) left c.loop-turn.invariant c.in-Err.ensures

pub loop-turn-preserved : goal.loop-turn-preserved
loop-turn-preserved g c =
    let left : 8 - c.loop-turn._turn ≡ suc (8 - (c.loop-turn._turn + 1)) = omega arith in
    turn_step (g.B.Below.heard c.args.view.now.below) (g.B.Below.heard c.loop-turn.view.below) (g.B.Below.heard c.turn.new.view.below)
    (turns_plan 8 c.args.fostering c.args.name.now (split_of c.args.view.now)) c.args.fostering c.args.name.now (8 - c.loop-turn._turn) (8 - (c.loop-turn._turn + 1))
    (split_of c.loop-turn.view) (split_of c.turn.new.view) c.in-Ok-true.field-0 left c.in-Ok-true.field-0-test c.loop-turn.invariant c.in-Ok-true.ensures

pub returns : goal.returns
returns g c =
    let none : 8 - c.loop-turn._turn ≡ 0 = omega arith in
    turns_done (g.B.Below.heard c.args.view.now.below) (g.B.Below.heard c.loop-turn.view.below)
    (turns_plan 8 c.args.fostering c.args.name.now (split_of c.args.view.now)) c.args.fostering c.args.name.now (8 - c.loop-turn._turn) (split_of c.loop-turn.view) none c.loop-turn.invariant
