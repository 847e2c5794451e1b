use Rattle.tests_sync.proofs.contention.four_threads_acquire.Given as goal

abbrev pub ghosts-are_all_granted : goal.ghosts-are_all_granted
ghosts-are_all_granted g a = record { name = a.blank.name; parts = a.blank.parts }
