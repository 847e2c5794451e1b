use Rattle.tests_pages.proofs.semaphore.semaphore.Given as goal

abbrev pub ghosts-connect : goal.ghosts-connect
ghosts-connect g a = record { name = a.blank.name; parts = a.blank.parts }
