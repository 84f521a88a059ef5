use Rattle.std.proofs.Common.{arith}
use Rattle.hp_control.specs.Guessing.{sought}
use Rattle.hp_control.proofs.Once.{looked_first, looked_next, none_left}
use Rattle.hp_control.proofs.pairs.pair_of.Goals as goal

pub loop-place-init : goal.loop-place-init
loop-place-init c = looked_first c.args.kept.now c.args.places.now (sought c.args.question) c.args.hash c.requires.indexed c.requires.hash c.last-place.result c.last-place.ensures

pub loop-place-preserved : goal.loop-place-preserved
loop-place-preserved c =
    looked_next c.args.kept.now c.args.places.now (sought c.args.question) c.args.hash c.requires.indexed c.requires.hash c.loop-place.place c.before-place.result
    (omega (arith, c.loop-place-test.true)) c.loop-place.invariant c.before-place.ensures c.in_default.ensures.none

pub returns-clause-none : goal.returns-clause-none
returns-clause-none c = none_left c.args.kept.now (sought c.args.question) c.loop-place.place (omega (arith, c.loop-place-test.false)) c.loop-place.invariant.1
