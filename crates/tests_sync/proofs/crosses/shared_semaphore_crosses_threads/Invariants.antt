use Rattle.tests_sync.proofs.crosses.shared_semaphore_crosses_threads.Given as goal

abbrev pub ghosts-shared_crosses : goal.ghosts-shared_crosses
ghosts-shared_crosses g a = record { name = a.blank.name; parts = a.blank.parts }
