use Rattle.tests_run.proofs.desks.each_seat_has_its_entries.Given as goal

abbrev pub ghosts-seats_forty : goal.ghosts-seats_forty
ghosts-seats_forty g a = record { name = a.blank.name; parts = a.blank.parts }
