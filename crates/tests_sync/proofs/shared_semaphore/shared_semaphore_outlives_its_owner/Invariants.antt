use Rattle.tests_sync.proofs.shared_semaphore.shared_semaphore_outlives_its_owner.Given as goal

abbrev pub ghosts-shared : goal.ghosts-shared
ghosts-shared g a = record { name = a.blank.name; parts = a.blank.parts }
