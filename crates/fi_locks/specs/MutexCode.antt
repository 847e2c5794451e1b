-- How a mutex's machine is told apart from others by a number.
use Rattle.std.specs.Prelude.{Bool, Option, refl}
use Rattle.std.specs.Coded.{Coded, code_by, coded×, coded_bool, coded_option}
use base.Stored.{coded_unit}
use Rattle.fi_parts.specs.MachineCode.{machine_code}
use Rattle.fi_locks.specs.Mutex.{MutexData, MutexMachine}

abbrev pub mutex_data_code : {T : Type 0} → Coded T → Coded (MutexData T)
mutex_data_code {T} t =
    code_by (Bool × Option T) (coded× coded_bool (coded_option t)) (λ d. (d.is_fair, d.value))
    (λ p. record { is_fair = p.0; value = p.1 }) (λ _. refl)

abbrev pub mutex_code : {T W : Type 0} → Coded T → Coded W → Coded (MutexMachine T W)
mutex_code t w = machine_code (mutex_data_code t) coded_unit w
