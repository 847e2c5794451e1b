use Rattle.tests_sync.proofs.owned.an_owned_guard_moves_to_a_thread.Given as goal

abbrev pub ghosts-guard_moves : goal.ghosts-guard_moves
ghosts-guard_moves g a = record { name = a.blank.name; parts = a.blank.parts }
