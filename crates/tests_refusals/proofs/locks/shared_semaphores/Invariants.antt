use Rattle.tests_refusals.proofs.locks.shared_semaphores.Given as goal

abbrev pub ghosts-refuse_making : goal.ghosts-refuse_making
ghosts-refuse_making g a = record { name = a.blank.name; parts = a.blank.parts }
