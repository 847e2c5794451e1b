use Rattle.tests_pages.proofs.types.runs.desk.Given as goal

abbrev pub ghosts-share : goal.ghosts-share
ghosts-share g a = record { name = a.blank.name; parts = a.blank.parts }

abbrev pub ghosts-loses : goal.ghosts-loses
ghosts-loses g a = record { name = a.blank.name; parts = a.blank.parts }
