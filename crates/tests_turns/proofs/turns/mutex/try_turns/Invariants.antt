use Rattle.tests_turns.proofs.turns.mutex.try_turns.Given as goal

abbrev pub ghosts-play_at_seven : goal.ghosts-play_at_seven
ghosts-play_at_seven g a = record { name = a.blank.name; parts = a.blank.parts }
