-- Who is as fit after a call as before it.
use Rattle.std.specs.Prelude.{◌≡◌, ◌≢◌, ℕ, Bool, true, Option, is_some}
use Rattle.fi_parts.specs.declared.phase.Phase.{Phase}
use Rattle.fi_parts.specs.Machine.{Machine, phase_at}

module _ {S D W : Type 0} (can_poll : Option (Phase W) → Bool) where
  -- Whoever lives stays live, and whoever can be polled can still be polled.
  pub record AllStay (old new : Machine S D W) : Type 0 where
    pub live : (name : ℕ) → is_some (phase_at old name) ≡ true → is_some (phase_at new name) ≡ true
    pub pollable : (name : ℕ) → can_poll (phase_at old name) ≡ true → can_poll (phase_at new name) ≡ true

  -- The same of all but this one.
  pub record OthersStay (name : ℕ) (old new : Machine S D W) : Type 0 where
    pub live : (other : ℕ) → other ≢ name → is_some (phase_at old other) ≡ true → is_some (phase_at new other) ≡ true
    pub pollable : (other : ℕ) → other ≢ name → can_poll (phase_at old other) ≡ true → can_poll (phase_at new other) ≡ true

-- Whoever lives has another name than this.
abbrev pub IsApart : {S D W : Type 0} → ℕ → Machine S D W → Type 0
IsApart name machine = (other : ℕ) → is_some (phase_at machine other) ≡ true → other ≢ name
