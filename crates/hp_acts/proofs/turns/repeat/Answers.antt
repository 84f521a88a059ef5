use Rattle.hp_control.specs.Faithful.{Split}
use Rattle.hp_views.specs.View.{sight}
use Rattle.hp_acts.specs.Carrying.{reached}
use Rattle.hp_acts.specs.HandlePlans.{turns_plan}
use Rattle.hp_acts.specs.RowPlans.{turn_plan}
use Rattle.hp_acts.proofs.RowRuns.{came_again, came_left, is_error}
use Rattle.hp_acts.proofs.TurnRuns.{turn_again, turn_done, turn_refused, turns_run_out}
use Rattle.hp_acts.proofs.turns.repeat.Goals as goal

pub returns-in_err-take_turn : goal.returns-in_err-take_turn
returns-in_err-take_turn g c =
    turn_refused c.from_residual.result c.in_err-take_turn.field-0.0 (sight g.B.Below.heard c.args.view.now) (sight g.B.Below.heard c.take_turn.new.view) (λ (v : Split). turns_plan c.args.most c.args.turn.now.token (record { split = v; handled = c.args.turn.now.handled })) (g.B.Below.heard c.loop.view.below) c.args.most c.loop.counter c.loop.turn.token c.take_turn.new.turn.token (reached c.loop.view c.loop.turn) (reached c.take_turn.new.view c.take_turn.new.turn)
    (is_error c.from_residual.result c.in_err-take_turn.field-0.0 c.from_residual.ensures.1) c.loop.invariant c.loop-test.true c.in_err-take_turn.ensures

pub returns-then-not-branch : goal.returns-then-not-branch
returns-then-not-branch g c =
    turn_done (g.B.Below.heard c.args.view.now.below) (g.B.Below.heard c.loop.view.below) (g.B.Below.heard c.take_turn.new.view.below) (turns_plan c.args.most c.args.turn.now.token (reached c.args.view.now c.args.turn.now)) c.args.most c.loop.counter c.loop.turn.token (reached c.loop.view c.loop.turn) (reached c.take_turn.new.view c.take_turn.new.turn) c.loop.invariant c.loop-test.true
    (came_left c.in_ok-take_turn.field-0 (g.B.Below.heard c.loop.view.below) (g.B.Below.heard c.take_turn.new.view.below) (turn_plan c.loop.turn.token (reached c.loop.view c.loop.turn)) c.take_turn.new.turn.token (reached c.take_turn.new.view c.take_turn.new.turn) c.in_ok-take_turn.ensures c.if-not-branch.true)

pub loop-preserved : goal.loop-preserved
loop-preserved g c =
    turn_again (g.B.Below.heard c.args.view.now.below) (g.B.Below.heard c.loop.view.below) (g.B.Below.heard c.take_turn.new.view.below) (turns_plan c.args.most c.args.turn.now.token (reached c.args.view.now c.args.turn.now)) c.args.most c.loop.counter c.loop.turn.token c.take_turn.new.turn.token (reached c.loop.view c.loop.turn) (reached c.take_turn.new.view c.take_turn.new.turn) c.loop.invariant c.loop-test.true
    (came_again c.in_ok-take_turn.field-0 (g.B.Below.heard c.loop.view.below) (g.B.Below.heard c.take_turn.new.view.below) (turn_plan c.loop.turn.token (reached c.loop.view c.loop.turn)) c.take_turn.new.turn.token (reached c.take_turn.new.view c.take_turn.new.turn) c.in_ok-take_turn.ensures c.if-not-branch.false)

pub returns : goal.returns
returns g c =
    turns_run_out (g.B.Below.heard c.args.view.now.below) (g.B.Below.heard c.loop.view.below) (turns_plan c.args.most c.args.turn.now.token (reached c.args.view.now c.args.turn.now)) c.args.most c.loop.counter c.loop.turn.token (reached c.loop.view c.loop.turn) c.loop.invariant c.loop-test.false
