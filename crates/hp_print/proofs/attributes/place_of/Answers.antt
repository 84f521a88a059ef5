use Rattle.std.proofs.Common.{get_or, sym, ◌∙◌, arith}
use Rattle.hp_print.proofs.Placing.{place_step, place_here, place_end}
use Rattle.hp_print.proofs.Sorting.{blank, read_again}
use Rattle.hp_print.proofs.attributes.place_of.Goals as goal

pub loop-at-preserved : goal.loop-at-preserved
loop-at-preserved c =
    let xs = c.args.sorted.now in
    let i = c.loop-at.at in
    let x = get_or xs i blank in
    record {
      within = omega (arith, c.loop-at-test.true);
      passed = place_step xs i x c.args.shown _ c.loop-at-test.true (read_again xs i c.loop-at-test.true) (sym c.follows.ensures ∙ c.if-follows.true) c.loop-at.invariant.passed;
    }

pub returns-else-follows-clause-place : goal.returns-else-follows-clause-place
returns-else-follows-clause-place c =
    let xs = c.args.sorted.now in
    let i = c.loop-at.at in
    let x = get_or xs i blank in
    place_here xs i x c.args.shown _ c.loop-at-test.true (read_again xs i c.loop-at-test.true) (sym c.follows.ensures ∙ c.if-follows.false) c.loop-at.invariant.passed

pub returns-after-loop-at-clause-place : goal.returns-after-loop-at-clause-place
returns-after-loop-at-clause-place c = place_end c.args.sorted.now c.loop-at.at c.args.shown _ c.loop-at-test.false c.loop-at.invariant.passed
