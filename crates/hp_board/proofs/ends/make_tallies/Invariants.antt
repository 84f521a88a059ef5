-- The tallies of the workers so far.
use Rattle.std.proofs.Common.{◌≡◌}
use Rattle.hp_board.specs.Calls.{worker_tallies}
use Rattle.hp_board.proofs.ends.make_tallies.Given as goal

abbrev pub invariant-loop-worker : goal.invariant-loop-worker
invariant-loop-worker l = l.tallies.items ≡ worker_tallies l.worker
