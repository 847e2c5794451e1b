-- The machine of a timer.
use Rattle.std.specs.Prelude.{◌≡◌, ◌<◌, ◌+◌, ◌-◌, ◌^◌, ℕ, Bool, true, false, nat_le, min, max, Option, Some, None, List}
use Rattle.futures.specs.declared.task.Poll.{Poll}
use Rattle.futures.specs.declared.task.Poll.TheVariants.{Ready, Pending}
use Rattle.fi_parts.specs.declared.phase.Notice.TheVariants.{Tell}
use Rattle.fi_parts.specs.declared.phase.Phase.{Phase}
use Rattle.fi_parts.specs.declared.phase.Phase.TheVariants.{Fresh, Registered, Told}
use Rattle.fi_parts.specs.Clocks.{whole_millis_in}
use Rattle.fi_parts.specs.Deadlines.{expiry_of, AreDue}
use Rattle.fi_parts.specs.Effects.WaiterEffect.{Inserts, RegistersApart, KeepsWaiting, Ends, NotifiesListed}
use Rattle.fi_parts.specs.Machine.{Machine, phase_at, initial, StepsTo, HasSoundWaitersBy, AllLack}
pub use Rattle.fi_parts.specs.Machine.{Cancels, Wakes}
use Rattle.fi_parts.specs.Places.{never_queued}
pub use Rattle.fi_parts.specs.Polled.{can_be_polled, is_wait_phase}

-- Its own data are the floor, a moment that is before the expiry of each future that waits; a future asks for its expiry.
abbrev pub TimerMachine : Type 0 → Type 0
TimerMachine W = Machine ℕ ℕ W

-- a future lacks what it waits for while its expiry is after the floor
abbrev pub lacks : ℕ → Option ℕ → Type 0
lacks floor (Some expiry) = floor < expiry
lacks floor None = ⊥

-- The expiry of a delay of so many nanoseconds from this moment: whole milliseconds later, and at most the greatest moment.
abbrev pub expiry_after : ℕ → ℕ → ℕ
expiry_after now nanos = min (now + whole_millis_in nanos) (2 ^ 64 - 1)

module _ {W : Type 0} where
  abbrev pub opened : TimerMachine W
  opened = initial 0

  -- A fresh future with this expiry, of a name that was not live.
  abbrev pub Makes : TimerMachine W → ℕ → ℕ → TimerMachine W → Type 0
  Makes old expiry name new = StepsTo old old.own (Inserts name expiry) new

  -- A poll at this moment of a future of this phase, whose expiry has come or not.
  abbrev pub PollsAs : Option (Phase W) → Bool → TimerMachine W → ℕ → ℕ → W → Poll (Unit {0}) → TimerMachine W → Type 0
  -- a fresh one ends if its expiry has come, and else registers
  PollsAs (Some Fresh) true old name now waker answer new = (answer ≡ Ready tt) × StepsTo old old.own (Ends name) new
  PollsAs (Some Fresh) false old name now waker answer new = (answer ≡ Pending) ×
      StepsTo old (min old.own now) (RegistersApart name waker) new
  -- a registered one stays pending with its newest waker, whatever the moment is
  PollsAs (Some (Registered before)) come old name now waker answer new = (answer ≡ Pending) ×
      StepsTo old old.own (KeepsWaiting name waker) new
  -- a told one ends, whatever the moment is
  PollsAs (Some Told) come old name now waker answer new = (answer ≡ Ready tt) × StepsTo old old.own (Ends name) new
  -- no other is polled
  PollsAs phase come old name now waker answer new = ⊥

  abbrev pub Polls : TimerMachine W → ℕ → ℕ → W → Poll (Unit {0}) → TimerMachine W → Type 0
  Polls old name now waker answer new = PollsAs (phase_at old name) (nat_le (expiry_of old.waiting.side name) now) old name now waker
      answer new

  -- A check at this moment tells exactly those that are due, in rising order of expiry; the floor is then not before the moment.
  abbrev pub Checks : TimerMachine W → ℕ → TimerMachine W → Type 0
  Checks old now new = (due : List ℕ) × AreDue now old.waiting.side due × StepsTo old (max old.own now) (NotifiesListed Tell due) new

  -- A pair is of a live future that is not registered, none has two; no future is complete. There is no queue.
  abbrev pub IsSound : TimerMachine W → Type 0
  IsSound state = HasSoundWaitersBy never_queued is_wait_phase state

  -- No wake is owed: the expiry of each registered future is after the floor.
  abbrev pub OwesNoWake : TimerMachine W → Type 0
  OwesNoWake state = AllLack lacks state
