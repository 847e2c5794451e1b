use Rattle.tests_wakes.proofs.polls.an_acquire_that_overtakes_wakes_nobody.Given as goal

abbrev pub ghosts-acquire_in_peace : goal.ghosts-acquire_in_peace
ghosts-acquire_in_peace g a = record { name = a.blank.name; parts = a.blank.parts }
