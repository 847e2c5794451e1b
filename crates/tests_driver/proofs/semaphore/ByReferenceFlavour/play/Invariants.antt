use Rattle.tests_driver.proofs.semaphore.ByReferenceFlavour.play.Given as goal

abbrev pub ghosts-play_borrowed : goal.ghosts-play_borrowed
ghosts-play_borrowed g a = record { name = a.blank.name; parts = a.blank.parts }
