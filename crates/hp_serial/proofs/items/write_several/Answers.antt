use Rattle.std.proofs.Common.{refl}
use Rattle.hp_serial.proofs.Joins.{run_joined, runs_done}
use Rattle.hp_serial.proofs.items.write_several.Goals as goal

pub loop-run-init : goal.loop-run-init
loop-run-init c = rw (c.into_iter-run-iterator.ensures.into_iter_gives, c.iter-run-items.ensures) refl

pub loop-run-preserved : goal.loop-run-preserved
loop-run-preserved c =
    run_joined c.args.raw _ _ _ c.in-Some.run'.now _ c.next.new.self c.in_ok-write_run.ensures c.in-Some.ensures.steps c.loop-run.invariant

pub returns : goal.returns
returns c = runs_done c.args.raw _ _ _ c.in-None.ensures.steps.0 c.loop-run.invariant
