-- What a caller sees of the futures of a timer: each asks for its expiry, and those that are due are told in the order of their expiries.
use Rattle.std.specs.Prelude.{◌≡◌, ◌≤◌, ℕ, Bool, true, false, ◌&&◌, nat_le, Option, Some, None, List, [], ◌∷◌, ◌++◌, unwrap_or}
use Rattle.fi_parts.specs.declared.phase.Phase.{Phase}
use Rattle.fi_parts.specs.declared.phase.Phase.TheVariants.{Fresh, Told}
use Rattle.fi_parts.specs.Effects.{notified}
use Rattle.fi_parts.specs.Order.{holds, Apart}
use Rattle.fi_parts.specs.Pairs.{has}
use Rattle.fi_parts.specs.Waiting.{Waiters, Waiting, phase_of, asks_of, is_registered, with_phase, pair}

-- the expiries of these names never fall
abbrev pub NeverFall : (ℕ → ℕ) → List ℕ → Type 0
NeverFall expiry [] = Unit {0}
NeverFall expiry (name ∷ names) = ((later : ℕ) → holds later names ≡ true → expiry name ≤ expiry later) × NeverFall expiry names

module _ {W : Type 0} where
  -- the expiry of this name; only that of a live one is asked for
  abbrev pub expiry_of : Waiters ℕ W → ℕ → ℕ
  expiry_of side name = unwrap_or (asks_of side name) 0

  -- this name is registered: it waits for its expiry
  abbrev pub is_entered : Waiters ℕ W → ℕ → Bool
  is_entered side name = is_registered (phase_of side name)

  abbrev pub is_fresh : Option (Phase W) → Bool
  is_fresh (Some Fresh) = true
  is_fresh phase = false

  -- this name is registered, and its expiry has come
  abbrev pub is_due : ℕ → Waiters ℕ W → ℕ → Bool
  is_due now side name = is_entered side name && nat_le (expiry_of side name) now

  -- who is registered has no pair
  abbrev pub NoneHasPair : Waiting ℕ W → Type 0
  NoneHasPair waiting = (name : ℕ) → is_entered waiting.side name ≡ true → has name waiting.out ≡ false

  -- These are exactly the registered names whose expiry has come, none twice, in an order in which expiries never fall.
  pub record AreDue (now : ℕ) (side : Waiters ℕ W) (due : List ℕ) : Type 0 where
    pub exactly : (name : ℕ) → holds name due ≡ is_due now side name
    pub once : Apart due
    pub in_order : NeverFall (expiry_of side) due

  -- All that are due are told, and named in the order of their expiries.
  abbrev pub TellsExpired : ℕ → Waiting ℕ W → Waiting ℕ W → Type 0
  TellsExpired now old new = (due : List ℕ) × AreDue now old.side due × (new ≡ notified Told due old.side.queue old)

  -- this one is told and named
  abbrev pub told_due : Waiting ℕ W → ℕ → Waiting ℕ W
  told_due old name = record { side = record old.side { live = with_phase old.side.live name Told }; out = old.out ++ pair old.side name }

  -- This one is due, and no registered one before it.
  pub record IsLeastDue (now : ℕ) (side : Waiters ℕ W) (name : ℕ) : Type 0 where
    pub due : is_due now side name ≡ true
    pub least : (other : ℕ) → is_entered side other ≡ true → expiry_of side name ≤ expiry_of side other

  abbrev pub NoneDue : ℕ → Waiters ℕ W → Type 0
  NoneDue now side = (name : ℕ) → is_due now side name ≡ false

  -- The least expiry of the registered; None where none is registered.
  abbrev pub IsNextExpiry : Waiters ℕ W → Option ℕ → Type 0
  IsNextExpiry side None = (name : ℕ) → is_entered side name ≡ false
  IsNextExpiry side (Some expiry) = ((name : ℕ) × (is_entered side name ≡ true) × (expiry_of side name ≡ expiry))
      × ((name : ℕ) → is_entered side name ≡ true → expiry ≤ expiry_of side name)
