use Rattle.tests_sync.proofs.closing.a_close_ends_all_who_wait_or_come.Given as goal

abbrev pub ghosts-closes : goal.ghosts-closes
ghosts-closes g a = record { name = a.blank.name; parts = a.blank.parts }
