use Rattle.uses.proofs.main.Given as goal

abbrev pub ghosts-serve-L-Ledger : goal.ghosts-serve-L-Ledger
ghosts-serve-L-Ledger g a = record { name = a.permits.name; parts = a.permits.parts }

abbrev pub ghosts-serve-K-Ledger : goal.ghosts-serve-K-Ledger
ghosts-serve-K-Ledger g a = record { name = a.lock.name; parts = a.lock.parts }

abbrev pub ghosts-limit : goal.ghosts-limit
ghosts-limit g a = record { name = a.blank.name; parts = a.blank.parts }

abbrev pub ghosts-connect : goal.ghosts-connect
ghosts-connect g a = record { name = a.blank.name; parts = a.blank.parts }

abbrev pub ghosts-record : goal.ghosts-record
ghosts-record g a = record { name = a.blank.name; parts = a.blank.parts }
