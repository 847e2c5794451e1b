use Rattle.tests_pages.proofs.types.threads.shared_semaphore.Given as goal

abbrev pub ghosts-outlives : goal.ghosts-outlives
ghosts-outlives g a = record { name = a.blank.name; parts = a.blank.parts }
