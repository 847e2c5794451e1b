-- How a timer's machine is told apart from others by a number.
use Rattle.std.specs.Coded.{Coded, coded_ℕ}
use Rattle.fi_parts.specs.MachineCode.{machine_code}
use Rattle.fi_locks.specs.Timer.{TimerMachine}

abbrev pub timer_code : {W : Type 0} → Coded W → Coded (TimerMachine W)
timer_code w = machine_code coded_ℕ coded_ℕ w
