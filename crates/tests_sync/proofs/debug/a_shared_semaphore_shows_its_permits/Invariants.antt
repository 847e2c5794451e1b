use Rattle.tests_sync.proofs.debug.a_shared_semaphore_shows_its_permits.Given as goal

abbrev pub ghosts-shared_semaphore_shows : goal.ghosts-shared_semaphore_shows
ghosts-shared_semaphore_shows g a = record { name = a.blank.name; parts = a.blank.parts }
