use Rattle.tests_run.proofs.desks.desk_seats.Given as goal

abbrev pub ghosts-settles_with : goal.ghosts-settles_with
ghosts-settles_with g a = record { name = a.blank.name; parts = a.blank.parts }

abbrev pub ghosts-refuses_a_third : goal.ghosts-refuses_a_third
ghosts-refuses_a_third g a = record { name = a.blank.name; parts = a.blank.parts }
