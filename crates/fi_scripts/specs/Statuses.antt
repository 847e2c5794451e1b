-- The statuses that the program ends with.
use Rattle.std.specs.Prelude.{ℕ}
use Rattle.fi_scripts.specs.declared.fault.ScriptFault.{ScriptFault}
use Rattle.fi_scripts.specs.declared.fault.ScriptFault.TheVariants.{Read, Write, BadLine, NoMemory}

abbrev pub status_of : ScriptFault → ℕ
status_of Read = 1
status_of Write = 1
status_of (BadLine line) = 2
status_of NoMemory = 3
