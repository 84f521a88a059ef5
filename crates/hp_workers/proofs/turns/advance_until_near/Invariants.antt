-- The tally is a later one.
use Rattle.hp_board.specs.Tallies.{IsLater}
use Rattle.hp_workers.proofs.turns.advance_until_near.Given as goal

abbrev pub invariant-loop-turn : goal.invariant-loop-turn
invariant-loop-turn g l = IsLater l.fn.tally l.tally

abbrev pub ghosts-advance_by : goal.ghosts-advance_by
ghosts-advance_by g a = record { name = a.blank.name; parts = a.blank.parts }
