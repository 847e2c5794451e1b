use Rattle.tests_sync.proofs.crosses.mutex_crosses_threads.Given as goal

abbrev pub ghosts-lock_crosses : goal.ghosts-lock_crosses
ghosts-lock_crosses g a = record { name = a.blank.name; parts = a.blank.parts }
