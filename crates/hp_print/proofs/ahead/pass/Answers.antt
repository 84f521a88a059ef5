use Rattle.std.proofs.Common.{arith}
use Rattle.hp_print.proofs.Steps.{marks-pop, marks-last, marks-high}
use Rattle.hp_print.proofs.ahead.pass.Goals as goal

pub pass_one-requires-clause-mark : goal.pass_one-requires-clause-mark
pass_one-requires-clause-mark c =
    let marks = c.loop.invariant.in_tree in
    marks-last c.args.tree.now 0 c.pop.new.self.items c.in-Some.mark (rw c.in-Some.ensures.items at marks)

pub pass_one-requires-clause-rising : goal.pass_one-requires-clause-rising
pass_one-requires-clause-rising c =
    let marks = c.loop.invariant.in_tree in
    omega (arith, marks-high c.args.tree.now 0 c.pop.new.self.items c.in-Some.mark (rw c.in-Some.ensures.items at marks), c.pop.new.self.ok.0)

pub pass_one-requires-clause-marks : goal.pass_one-requires-clause-marks
pass_one-requires-clause-marks c = record {
  in_tree = marks-pop c.args.tree.now 0 c.pop.new.self.items c.in-Some.mark (rw c.in-Some.ensures.items at c.loop.invariant.in_tree);
  fit = omega (arith, c.loop.invariant.fit, c.in-Some.ensures.capacity);
}
