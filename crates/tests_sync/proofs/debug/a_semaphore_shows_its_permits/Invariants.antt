use Rattle.tests_sync.proofs.debug.a_semaphore_shows_its_permits.Given as goal

abbrev pub ghosts-semaphore_shows : goal.ghosts-semaphore_shows
ghosts-semaphore_shows g a = record { name = a.blank.name; parts = a.blank.parts }
