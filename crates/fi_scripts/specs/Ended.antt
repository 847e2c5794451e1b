-- How a run of the program ends.
use Rattle.std.specs.Prelude.{◌≡◌, ◌⊎◌, ℕ, List, Option, codes}
use Rattle.fi_scripts.specs.Begun.{Begins, fault_line}
use Rattle.fi_scripts.specs.Script.{IfFault}
use Rattle.fi_scripts.specs.Statuses.{status_of}
use Rattle.fi_scripts.specs.declared.fault.ScriptFault.{ScriptFault}

-- All lines were answered and nothing is reported, or a fault ended the run and was reported.
abbrev pub EndsScript : ℕ → Type 0 → Type 0 → (ℕ → Type 0) → Type 0 → Option (List ℕ) → Option (List ℕ) → Type 0
EndsScript status untouched answered refused short before after = ((status ≡ 0) × answered × (after ≡ before))
    ⊎ ((fault : ScriptFault) × (status ≡ status_of fault) × IfFault untouched refused short fault
    × Begins before after (fault_line fault))

-- The arguments were refused.
abbrev pub RefusesArguments : ℕ → Option (List ℕ) → Option (List ℕ) → Type 0
RefusesArguments status before after = (status ≡ 2) × Begins before after (codes "schedule: takes no arguments\n")

-- The arguments were refused, or could not be read for want of memory.
abbrev pub EndsAtOnce : ℕ → Option (List ℕ) → Option (List ℕ) → Type 0
EndsAtOnce status before after = RefusesArguments status before after
    ⊎ ((status ≡ 3) × Begins before after (codes "schedule: no memory\n"))
