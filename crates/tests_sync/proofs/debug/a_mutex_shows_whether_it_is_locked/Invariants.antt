use Rattle.tests_sync.proofs.debug.a_mutex_shows_whether_it_is_locked.Given as goal

abbrev pub ghosts-mutex_shows : goal.ghosts-mutex_shows
ghosts-mutex_shows g a = record { name = a.blank.name; parts = a.blank.parts }
