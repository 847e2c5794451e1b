-- The machine of a mutex.
use Rattle.std.specs.Prelude.{◌≡◌, ◌&&◌, not, ℕ, Bool, true, false, if◌then◌else◌, Option, Some, None, is_some, Result, Ok}
use Rattle.std.specs.Prelude.{Err, List, [], ◌∷◌}
use Rattle.futures.specs.declared.task.Poll.{Poll}
use Rattle.futures.specs.declared.task.Poll.TheVariants.{Ready, Pending}
use Rattle.fi_parts.specs.declared.phase.Phase.{Phase}
use Rattle.fi_parts.specs.declared.phase.Phase.TheVariants.{Fresh, Registered, Told}
use Rattle.fi_parts.specs.Effects.{WaiterEffect, first_of}
use Rattle.fi_parts.specs.Effects.WaiterEffect.{NoChange, Inserts, Registers, KeepsWaiting, EndsPlaced, Removes, NotifiesFront, AndThen}
use Rattle.fi_parts.specs.Machine.{Machine, phase_at, initial, StepsTo, HasSoundWaitersBy}
pub use Rattle.fi_parts.specs.Machine.{Wakes}
use Rattle.fi_parts.specs.Order.{holds, without}
use Rattle.fi_parts.specs.Places.{is_told}
use Rattle.fi_parts.specs.Waiting.{Waiting, is_queued}
pub use Rattle.fi_parts.specs.Polled.{can_be_polled, is_wait_phase}

-- Fair or not, and the value of a free mutex. While it is held, its holder has the value.
pub record MutexData (T : Type 0) : Type 0 where
  pub is_fair : Bool
  pub value : Option T

-- Its futures ask for nothing but the mutex.
abbrev pub MutexMachine : Type 0 → Type 0 → Type 0
MutexMachine T W = Machine (MutexData T) (Unit {0}) W

module _ {T : Type 0} where
  -- held, by whoever got its value
  abbrev pub held : MutexData T → MutexData T
  held own = record own { value = None }

  -- free, with this value
  abbrev pub freed : MutexData T → T → MutexData T
  freed own value = record own { value = Some value }

abbrev pub is_empty : List ℕ → Bool
is_empty [] = true
is_empty (name ∷ later) = false

module _ {W : Type 0} where
  -- the oldest of this queue, if there is one, is told; in a fair mutex it keeps its place
  abbrev pub tells_oldest : Bool → List ℕ → WaiterEffect (Unit {0}) W
  tells_oldest is_fair queue = NotifiesFront is_fair (first_of queue)

module _ {T W : Type 0} where
  abbrev pub is_free : MutexMachine T W → Bool
  is_free mutex = is_some mutex.own.value

  -- the names of those that have a place in the queue, the oldest first
  abbrev pub queue_of : MutexMachine T W → List ℕ
  queue_of mutex = mutex.waiting.side.queue

  abbrev pub mutex_of : Bool → Option T → Waiting (Unit {0}) W → MutexMachine T W
  mutex_of is_fair value locks = record { own = record { is_fair = is_fair; value = value }; waiting = locks }

  abbrev pub opened : T → Bool → MutexMachine T W
  opened value is_fair = initial (record { is_fair = is_fair; value = Some value })

  -- the same mutex, free with this value
  abbrev pub with_value : MutexMachine T W → T → MutexMachine T W
  with_value mutex value = record mutex { own = freed mutex.own value }

  -- What there is for one who isn't queued: the value of a free mutex, and of a fair one only while nobody is queued.
  abbrev pub for_newcomer : MutexMachine T W → Option T
  for_newcomer mutex = if mutex.own.is_fair && not (is_empty (queue_of mutex)) then None else mutex.own.value

  -- What there is for one who is registered: nothing in a fair mutex, where it waits to be told.
  abbrev pub for_registered : MutexMachine T W → Option T
  for_registered mutex = if mutex.own.is_fair then None else mutex.own.value

  -- A fresh future of a name that was not live.
  abbrev pub Makes : MutexMachine T W → ℕ → MutexMachine T W → Type 0
  Makes old name new = StepsTo old old.own (Inserts name tt) new

  -- A poll for which there is this. A value is granted: the mutex is held, and the future ends and leaves the queue. With none
  -- the future waits, by this effect.
  abbrev pub GrantsOr : WaiterEffect (Unit {0}) W → Option T → MutexMachine T W → ℕ → Poll T → MutexMachine T W → Type 0
  GrantsOr waits (Some value) old name answer new = (answer ≡ Ready value) × StepsTo old (held old.own) (EndsPlaced name) new
  GrantsOr waits None old name answer new = (answer ≡ Pending) × StepsTo old old.own waits new

  -- A poll of a future of this phase.
  abbrev pub PollsAs : Option (Phase W) → MutexMachine T W → ℕ → W → Poll T → MutexMachine T W → Type 0
  -- a fresh one is granted a free mutex, a fair one only if nobody is queued; else it registers
  PollsAs (Some Fresh) old name waker answer new = GrantsOr (Registers name waker) (for_newcomer old) old name answer new
  -- a registered one is granted a free mutex that is unfair; else it stays pending with its newest waker
  PollsAs (Some (Registered before)) old name waker answer new =
      GrantsOr (KeepsWaiting name waker) (for_registered old) old name answer new
  -- a told one is granted a free mutex, and a fair one is free then; else it registers, as the youngest
  PollsAs (Some Told) old name waker answer new =
      (old.own.is_fair ≡ true → is_free old ≡ true) × GrantsOr (Registers name waker) old.own.value old name answer new
  -- no other is polled
  PollsAs phase old name waker answer new = ⊥

  -- a poll that is ready has locked the mutex
  abbrev pub IsLockedIfReady : Poll T → MutexMachine T W → Type 0
  IsLockedIfReady (Ready value) new = is_free new ≡ false
  IsLockedIfReady Pending new = Unit {0}

  abbrev pub Polls : MutexMachine T W → ℕ → W → Poll T → MutexMachine T W → Type 0
  Polls old name waker answer new = PollsAs (phase_at old name) old name waker answer new

  -- The future leaves the mutex. In place of a told one the oldest that is queued then is told, whether or not the mutex is free.
  abbrev pub CancelsAs : Option (Phase W) → MutexMachine T W → ℕ → MutexMachine T W → Type 0
  CancelsAs (Some Told) old name new =
      StepsTo old old.own (AndThen (Removes name) (tells_oldest old.own.is_fair (without name (queue_of old)))) new
  CancelsAs phase old name new = StepsTo old old.own (Removes name) new

  abbrev pub Cancels : MutexMachine T W → ℕ → MutexMachine T W → Type 0
  Cancels old name new = CancelsAs (phase_at old name) old name new

  -- What there is for a newcomer is taken, and the mutex is then held.
  abbrev pub TriesFor : Option T → MutexMachine T W → Option T → MutexMachine T W → Type 0
  TriesFor (Some value) old answer new = (answer ≡ Some value) × StepsTo old (held old.own) NoChange new
  TriesFor None old answer new = (answer ≡ None) × StepsTo old old.own NoChange new

  -- a try that gives the value has locked the mutex
  abbrev pub IsLockedIfGiven : Option T → MutexMachine T W → Type 0
  IsLockedIfGiven (Some value) new = is_free new ≡ false
  IsLockedIfGiven None new = Unit {0}

  abbrev pub TriesLock : MutexMachine T W → Option T → MutexMachine T W → Type 0
  TriesLock old answer new = TriesFor (for_newcomer old) old answer new

  -- A held mutex gets this value back, and tells the oldest of its queue; a free one hands it back.
  abbrev pub UnlocksFrom : Option T → MutexMachine T W → T → Result (Unit {0}) T → MutexMachine T W → Type 0
  UnlocksFrom None old value answer new =
      (answer ≡ Ok tt) × StepsTo old (freed old.own value) (tells_oldest old.own.is_fair (queue_of old)) new
  UnlocksFrom (Some there) old value answer new = (answer ≡ Err value) × StepsTo old old.own NoChange new

  abbrev pub Unlocks : MutexMachine T W → T → Result (Unit {0}) T → MutexMachine T W → Type 0
  Unlocks old value answer new = UnlocksFrom old.own.value old value answer new

  -- The queue holds the registered futures, and in a fair mutex the told ones; out is in order; no future is complete.
  abbrev pub IsSound : MutexMachine T W → Type 0
  IsSound mutex = HasSoundWaitersBy (is_queued mutex.own.is_fair) is_wait_phase mutex

  -- No wake is owed.
  abbrev pub OwesNoWakeAs : Bool → MutexMachine T W → Type 0
  -- fair: a future is told exactly if the mutex is free and it is the oldest of the queue
  OwesNoWakeAs true mutex = (name : ℕ) → is_told (phase_at mutex name) ≡ (is_free mutex && holds name (first_of (queue_of mutex)))
  -- unfair: if the mutex is free and a future is queued, some future is told
  OwesNoWakeAs false mutex = is_free mutex ≡ true → (next : ℕ) (later : List ℕ) → queue_of mutex ≡ next ∷ later →
      (name : ℕ) × (is_told (phase_at mutex name) ≡ true)

  abbrev pub OwesNoWake : MutexMachine T W → Type 0
  OwesNoWake mutex = OwesNoWakeAs mutex.own.is_fair mutex
