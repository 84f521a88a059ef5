-- The tally is a later one.
use Rattle.hp_board.specs.Tallies.{IsLater}
use Rattle.hp_workers.proofs.turns.work_at.Given as goal

abbrev pub invariant-loop-turn : goal.invariant-loop-turn
invariant-loop-turn g l = IsLater l.fn.tally l.tally
