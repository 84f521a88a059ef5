-- Main went on with the board.
use Rattle.hp_workers.specs.Turns.{HasGoneOn, weight}
use Rattle.hp_workers.proofs.mains.finish_alone.Given as goal

abbrev pub invariant-loop-alloc : goal.invariant-loop-alloc
invariant-loop-alloc l = HasGoneOn l.kind l.fn.board l.fn.tally l.board l.tally

abbrev pub decreases-loop-alloc : goal.decreases-loop-alloc
decreases-loop-alloc l = weight l.board
