use Rattle.tests_sync.proofs.mutex.mutex_taken_apart.Given as goal

abbrev pub ghosts-takes_apart : goal.ghosts-takes_apart
ghosts-takes_apart g a = record { name = a.blank.name; parts = a.blank.parts }
