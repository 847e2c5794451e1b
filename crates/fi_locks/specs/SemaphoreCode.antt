-- A code of a semaphore's machine.
use Rattle.std.specs.Prelude.{◌≡◌, ◌⊎◌, ℕ, Bool, true, false, refl}
use Rattle.std.proofs.Common.{inl, inr}
use Rattle.std.specs.Coded.{Coded, code_by, coded×, coded⊎, coded_ℕ, coded_bool}
use Rattle.fi_parts.specs.MachineCode.{machine_code}
use Rattle.fi_locks.specs.declared.semaphore.asked.Asked.{Asked}
use Rattle.fi_locks.specs.declared.semaphore.asked.Asked.TheVariants.{NoNeed, OneNeed, MixedNeeds}
use Rattle.fi_locks.specs.Semaphore.{Permits, SemaphoreMachine}

abbrev pub asked_cases : Asked → Bool ⊎ ℕ
asked_cases NoNeed = inl true
asked_cases (OneNeed only) = inr only
asked_cases MixedNeeds = inl false

abbrev pub without_number : Bool → Asked
without_number true = NoNeed
without_number false = MixedNeeds

abbrev pub asked_from : Bool ⊎ ℕ → Asked
asked_from (inl is_none) = without_number is_none
asked_from (inr only) = OneNeed only

pub asked_back : (asked : Asked) → asked_from (asked_cases asked) ≡ asked
asked_back NoNeed = refl
asked_back (OneNeed only) = refl
asked_back MixedNeeds = refl

abbrev pub asked_code : Coded Asked
asked_code = code_by (Bool ⊎ ℕ) (coded⊎ coded_bool coded_ℕ) asked_cases asked_from asked_back

abbrev pub permits_code : Coded Permits
permits_code =
    code_by
    (Bool × (ℕ × (ℕ × Asked)))
    (coded× coded_bool (coded× coded_ℕ (coded× coded_ℕ asked_code)))
    (λ p. (p.is_fair, (p.free, (p.held, p.asked))))
    (λ p. record { is_fair = p.0; free = p.1.0; held = p.1.1.0; asked = p.1.1.1 })
    (λ _. refl)

abbrev pub semaphore_code : {W : Type 0} → Coded W → Coded (SemaphoreMachine W)
semaphore_code w = machine_code permits_code coded_ℕ w
