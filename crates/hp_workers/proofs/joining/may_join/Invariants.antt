-- The counter is that of the blank.
use Rattle.hp_workers.proofs.joining.may_join.Given as goal

abbrev pub ghosts-check_by : goal.ghosts-check_by
ghosts-check_by a = record { name = a.blank.name; parts = a.blank.parts }
