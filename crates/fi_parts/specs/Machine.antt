-- A machine: data of its own, and futures that wait.
use Rattle.std.specs.Prelude.{◌≡◌, ℕ, Bool, true, Option, Some, None}
use Rattle.fi_parts.specs.declared.phase.Phase.{Phase}
use Rattle.fi_parts.specs.Waiting.{Waiting, phase_of, asks_of, is_registered, displaced, AreSoundBy}
use Rattle.fi_parts.specs.Effects.{WaiterEffect, TakesEffect, nobody}
use Rattle.fi_parts.specs.Effects.WaiterEffect.{Removes, PopsOldest}
use Rattle.fi_parts.specs.declared.phase.Phase.TheVariants.{Fresh, Registered, Ended}

pub record Machine (S D W : Type 0) : Type 0 where
  pub own : S
  pub waiting : Waiting D W

module _ {S D W : Type 0} where
  -- the phase of this name; None: it is not live
  abbrev pub phase_at : Machine S D W → ℕ → Option (Phase W)
  phase_at machine name = phase_of machine.waiting.side name

  -- The waker that this name has: the registered one, or that of its pair. A poll or a cancel displaces it.
  abbrev pub displaced_at : Machine S D W → ℕ → Option W
  displaced_at machine name = displaced machine.waiting.side machine.waiting.out name

  abbrev pub initial : S → Machine S D W
  initial own = record { own = own; waiting = nobody }

  -- Afterwards the machine has these data of its own, and the waiters took this effect.
  abbrev pub StepsTo : Machine S D W → S → WaiterEffect D W → Machine S D W → Type 0
  StepsTo old own effect new = (new.own ≡ own) × TakesEffect effect old.waiting new.waiting

  -- The future of this name leaves the machine, and nobody is told.
  abbrev pub Cancels : Machine S D W → ℕ → Machine S D W → Type 0
  Cancels old name new = StepsTo old old.own (Removes name) new

  -- The front pair is taken out, and its waker answered.
  abbrev pub Wakes : Machine S D W → Option W → Machine S D W → Type 0
  Wakes old answer new = StepsTo old old.own (PopsOldest answer) new

  -- The queue holds exactly the futures whose phase has a place in it, none twice; each pair is of a live one that is not
  -- registered, none has two; only these phases occur.
  abbrev pub HasSoundWaitersBy : (place known : Option (Phase W) → Bool) → Machine S D W → Type 0
  HasSoundWaitersBy place known machine = AreSoundBy place known machine.waiting.side machine.waiting.out

  -- The same where the registered futures alone have a place in the queue.
  abbrev pub HasSoundWaiters : (Option (Phase W) → Bool) → Machine S D W → Type 0
  HasSoundWaiters known machine = HasSoundWaitersBy is_registered known machine

  -- Each registered future lacks what it asks for.
  abbrev pub AllLack : (S → Option D → Type 0) → Machine S D W → Type 0
  AllLack lacks machine = (name : ℕ) → is_registered (phase_at machine name) ≡ true → lacks machine.own (asks_of machine.waiting.side name)

-- Futures of these phases are made, wait and end.
pub record AllowsBasics {W : Type 0} (known : Option (Phase W) → Bool) : Type 0 where
  pub gone : known None ≡ true
  pub fresh : known (Some Fresh) ≡ true
  pub registered : (waker : W) → known (Some (Registered waker)) ≡ true
  pub ended : known (Some Ended) ≡ true
