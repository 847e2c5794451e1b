use Rattle.tests_sync.proofs.blocking.acquires_block.Given as goal

abbrev pub ghosts-acquire_blocks : goal.ghosts-acquire_blocks
ghosts-acquire_blocks g a = record { name = a.blank.name; parts = a.blank.parts }
