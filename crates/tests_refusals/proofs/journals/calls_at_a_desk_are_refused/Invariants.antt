use Rattle.tests_refusals.proofs.journals.calls_at_a_desk_are_refused.Given as goal

abbrev pub ghosts-calls_at_a_desk : goal.ghosts-calls_at_a_desk
ghosts-calls_at_a_desk g a = record { name = a.blank.name; parts = a.blank.parts }
