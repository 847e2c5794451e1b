use Rattle.tests_run.proofs.pools.pool_on_a_desk.Given as goal

abbrev pub ghosts-workers : goal.ghosts-workers
ghosts-workers g a = record { name = a.blank.name; parts = a.blank.parts }
