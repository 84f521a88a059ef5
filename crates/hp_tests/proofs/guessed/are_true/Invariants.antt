use Rattle.hp_tests.proofs.guessed.are_true.Given as goal

abbrev pub ghosts-are_true_by : goal.ghosts-are_true_by
ghosts-are_true_by a = record { name = a.blank.name; parts = a.blank.parts }
