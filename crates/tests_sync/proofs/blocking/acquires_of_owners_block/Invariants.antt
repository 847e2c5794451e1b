use Rattle.tests_sync.proofs.blocking.acquires_of_owners_block.Given as goal

abbrev pub ghosts-shared_blocks : goal.ghosts-shared_blocks
ghosts-shared_blocks g a = record { name = a.blank.name; parts = a.blank.parts }
