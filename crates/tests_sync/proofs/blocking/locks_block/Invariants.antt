use Rattle.tests_sync.proofs.blocking.locks_block.Given as goal

abbrev pub ghosts-lock_blocks : goal.ghosts-lock_blocks
ghosts-lock_blocks g a = record { name = a.blank.name; parts = a.blank.parts }
