-- What a mutex and a semaphore ask of the blank that they are made with.
use Rattle.std.specs.Prelude.{◌≡◌, ℕ}
use Rattle.std.specs.declared.sync.ledger.Blank.{Blank}
use Rattle.std.specs.declared.sync.ledger.Ledger.{Ghosts}

-- The blank is that of this ledger, which has so many parts.
abbrev pub IsBlankOf : {L : Type 0} → Ghosts L → ℕ → Blank → Type 0
IsBlankOf ledger parts blank = (blank.name ≡ ledger.name) × (blank.parts ≡ ledger.parts) × (blank.parts ≡ parts)

-- A mutex's ledger has one part, for the guard.
abbrev pub IsLockBlank : {L : Type 0} → Ghosts L → Blank → Type 0
IsLockBlank ledger blank = IsBlankOf ledger 1 blank

-- A semaphore's has a part for each permit that can be held: `u64::MAX`.
abbrev pub IsPermitBlank : {L : Type 0} → Ghosts L → Blank → Type 0
IsPermitBlank ledger blank = IsBlankOf ledger 18446744073709551615 blank
