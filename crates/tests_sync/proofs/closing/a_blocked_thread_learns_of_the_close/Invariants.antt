use Rattle.tests_sync.proofs.closing.a_blocked_thread_learns_of_the_close.Given as goal

abbrev pub ghosts-blocked : goal.ghosts-blocked
ghosts-blocked g a = record { name = a.blank.name; parts = a.blank.parts }
