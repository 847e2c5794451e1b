use Rattle.tests_turns.proofs.turns.semaphore.try_turns.Given as goal

abbrev pub ghosts-play_at_one : goal.ghosts-play_at_one
ghosts-play_at_one g a = record { name = a.blank.name; parts = a.blank.parts }
