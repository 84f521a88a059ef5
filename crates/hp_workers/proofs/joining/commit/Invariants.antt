-- The counter is that of the blank.
use Rattle.hp_workers.proofs.joining.commit.Given as goal

abbrev pub ghosts-join_by : goal.ghosts-join_by
ghosts-join_by a = record { name = a.blank.name; parts = a.blank.parts }
