use Rattle.hp_page_tests.proofs.counting.advanced.Given as goal

abbrev pub ghosts-advanced_by : goal.ghosts-advanced_by
ghosts-advanced_by g a = record { name = a.blank.name; parts = a.blank.parts }
