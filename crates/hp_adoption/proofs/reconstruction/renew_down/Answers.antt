use Rattle.std.proofs.Common.{◌≡◌, ◌+◌, ◌-◌, suc, arith}
use Rattle.hp_views.specs.View.{split_of}
use Rattle.hp_adoption.specs.ReconPlans.{renew_down_plan}
use Rattle.hp_adoption.proofs.Renewing.{down_step}
use Rattle.hp_adoption.proofs.reconstruction.renew_down.Goals as goal

pub loop-turn-preserved : goal.loop-turn-preserved
loop-turn-preserved g c =
    let count = c.args.count in
    let turn = c.loop-turn.turn in
    let left : count - turn ≡ suc (count - (turn + 1)) = omega (arith, c.loop-turn-test.true) in
    let now : count - 1 - turn ≡ count - (turn + 1) = omega arith in
    down_step (g.B.Below.heard c.args.view.now.below) (g.B.Below.heard c.loop-turn.view.below) (g.B.Below.heard c.renew.new.view.below)
    (renew_down_plan c.args.fostering count (split_of c.args.view.now)) c.args.fostering (count - turn) (count - (turn + 1)) (count - 1 - turn)
    (split_of c.loop-turn.view) (split_of c.renew.new.view) left now c.loop-turn.invariant c.in_ok-renew.ensures
