-- Texts of which at least a beginning was written.
use Rattle.std.specs.Prelude.{◌≡◌, ℕ, List, ◌++◌, Option, codes}
use Rattle.std.specs.Fmt.{decimal}
use Rattle.std.specs.Io.KnownBytes.{Appends}
use Rattle.fi_scripts.specs.declared.fault.ScriptFault.{ScriptFault}
use Rattle.fi_scripts.specs.declared.fault.ScriptFault.TheVariants.{Read, Write, BadLine, NoMemory}

-- A beginning of the text was written, and nothing else.
abbrev pub Begins : Option (List ℕ) → Option (List ℕ) → List ℕ → Type 0
Begins old new text = (front : List ℕ) × (rest : List ℕ) × (text ≡ front ++ rest) × Appends old new front

-- the line that reports a fault
abbrev pub fault_line : ScriptFault → List ℕ
fault_line Read = codes "schedule: read failed\n"
fault_line Write = codes "schedule: write failed\n"
fault_line (BadLine line) = codes "schedule: line " ++ decimal line ++ codes " is bad\n"
fault_line NoMemory = codes "schedule: no memory\n"
