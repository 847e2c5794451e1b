use Rattle.tests_driver.proofs.mutex.MutexOfFlavour.play.Given as goal

abbrev pub ghosts-play_locking : goal.ghosts-play_locking
ghosts-play_locking g a = record { name = a.blank.name; parts = a.blank.parts }
