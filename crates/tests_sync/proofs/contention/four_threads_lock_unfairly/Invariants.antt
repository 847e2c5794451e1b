use Rattle.tests_sync.proofs.contention.four_threads_lock_unfairly.Given as goal

abbrev pub ghosts-sum_of_all : goal.ghosts-sum_of_all
ghosts-sum_of_all g a = record { name = a.blank.name; parts = a.blank.parts }
