-- The counter is that of the blank.
use Rattle.hp_workers.proofs.mains.judge.Given as goal

abbrev pub ghosts-advance_by : goal.ghosts-advance_by
ghosts-advance_by a = record { name = a.blank.name; parts = a.blank.parts }
