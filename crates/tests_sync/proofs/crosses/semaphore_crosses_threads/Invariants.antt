use Rattle.tests_sync.proofs.crosses.semaphore_crosses_threads.Given as goal

abbrev pub ghosts-acquire_crosses : goal.ghosts-acquire_crosses
ghosts-acquire_crosses g a = record { name = a.blank.name; parts = a.blank.parts }
