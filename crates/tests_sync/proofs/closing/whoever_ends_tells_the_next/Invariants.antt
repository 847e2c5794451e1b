use Rattle.tests_sync.proofs.closing.whoever_ends_tells_the_next.Given as goal

abbrev pub ghosts-tells : goal.ghosts-tells
ghosts-tells g a = record { name = a.blank.name; parts = a.blank.parts }
