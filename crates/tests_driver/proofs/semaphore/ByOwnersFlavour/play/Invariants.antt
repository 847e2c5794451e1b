use Rattle.tests_driver.proofs.semaphore.ByOwnersFlavour.play.Given as goal

abbrev pub ghosts-play_shared : goal.ghosts-play_shared
ghosts-play_shared g a = record { name = a.blank.name; parts = a.blank.parts }
