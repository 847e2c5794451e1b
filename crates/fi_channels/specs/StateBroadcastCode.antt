-- How a state broadcast's machine is told apart from others by a number.
use Rattle.std.specs.Prelude.{ℕ, Bool, Option, refl}
use Rattle.std.specs.Coded.{Coded, code_by, coded×, coded_ℕ, coded_bool, coded_option}
use Rattle.fi_parts.specs.MachineCode.{machine_code}
use Rattle.fi_channels.specs.StateBroadcast.{Newest, StateMachine}

abbrev pub newest_code : {T : Type 0} → Coded T → Coded (Newest T)
newest_code {T} t =
    code_by (Bool × (ℕ × Option T)) (coded× coded_bool (coded× coded_ℕ (coded_option t)))
    (λ s. (s.is_open, (s.number, s.value))) (λ p. record { is_open = p.0; number = p.1.0; value = p.1.1 }) (λ _. refl)

abbrev pub state_code : {T W : Type 0} → Coded T → Coded W → Coded (StateMachine T W)
state_code t w = machine_code (newest_code t) coded_ℕ w
