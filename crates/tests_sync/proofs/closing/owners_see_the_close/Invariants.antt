use Rattle.tests_sync.proofs.closing.owners_see_the_close.Given as goal

abbrev pub ghosts-shared : goal.ghosts-shared
ghosts-shared g a = record { name = a.blank.name; parts = a.blank.parts }
