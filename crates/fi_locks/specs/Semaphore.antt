-- The machine of a semaphore.
use Rattle.std.specs.Prelude.{◌≡◌, ◌+◌, ◌-◌, ◌*◌, ◌^◌, ◌<◌, ◌≤◌, ◌==◌, ◌&&◌, ◌||◌, ◌⊎◌, ⊤, ℕ, zero, nat_le, nat_lt, Bool, true, false, not}
use Rattle.std.specs.Prelude.{if◌then◌else◌, Option, Some, unwrap_or, List, [], ◌∷◌, ◌++◌, length, sum_by}
use Rattle.futures.specs.declared.task.Poll.{Poll}
use Rattle.futures.specs.declared.task.Poll.TheVariants.{Ready, Pending}
use Rattle.fi_parts.specs.declared.phase.Phase.{Phase}
use Rattle.fi_parts.specs.declared.phase.Phase.TheVariants.{Fresh, Registered, Told}
use Rattle.fi_parts.specs.Effects.{WaiterEffect, TakesEffect}
use Rattle.fi_parts.specs.Effects.WaiterEffect.{NoChange, Inserts, Registers, KeepsWaiting, Ends, EndsPlaced, Removes, NotifiesFront}
use Rattle.fi_parts.specs.Machine.{Machine, phase_at, initial, StepsTo, HasSoundWaitersBy}
pub use Rattle.fi_parts.specs.Machine.{Wakes}
use Rattle.fi_parts.specs.Places.{is_told}
use Rattle.fi_parts.specs.Waiting.{Waiters, Waiting, phase_of, asks_of, is_queued, is_registered}
pub use Rattle.fi_locks.specs.declared.semaphore.Permits.{Permits}
use Rattle.fi_locks.specs.declared.semaphore.asked.Asked.{Asked}
use Rattle.fi_locks.specs.declared.semaphore.asked.Asked.TheVariants.{NoNeed, OneNeed, MixedNeeds}
use Rattle.fi_locks.specs.ToldFutures.{AreTold, IsToldFront}
pub use Rattle.fi_parts.specs.Polled.{can_be_polled, is_wait_phase}

-- Its own data are the permits; a future asks for the number of permits that it needs.
abbrev pub SemaphoreMachine : Type 0 → Type 0
SemaphoreMachine W = Machine Permits ℕ W

-- what the futures so far needed, after one that needs this many was made
abbrev pub asked_after : Asked → ℕ → Asked
asked_after asked zero = asked
asked_after NoNeed need = OneNeed need
asked_after (OneNeed only) need = if only == need then OneNeed only else MixedNeeds
asked_after MixedNeeds need = MixedNeeds

-- a future that needs this many may be among them
abbrev pub IsAmong : Asked → ℕ → Type 0
IsAmong NoNeed need = need ≡ 0
IsAmong (OneNeed only) need = (need ≡ 0) ⊎ (need ≡ only)
IsAmong MixedNeeds need = ⊤

abbrev pub is_empty : List ℕ → Bool
is_empty [] = true
is_empty (name ∷ names) = false

-- The needs of this front of the queue are together at most what is free, and with the need of the next one they would be more.
pub record IsLongestFit (need : ℕ → ℕ) (free : ℕ) (queue front : List ℕ) : Type 0 where
  pub fits : sum_by need front ≤ free
  pub longest : (next : ℕ) (later : List ℕ) → queue ≡ front ++ next ∷ later → free < sum_by need front + need next

-- n free permits are held now
abbrev pub granted : Permits → ℕ → Permits
granted permits n = record permits { free = permits.free - n; held = permits.held + n }

-- Whether n permits are granted to one who does not wait, while this is the queue: they are free and, if the semaphore is fair and n
-- is not 0, nobody is queued.
abbrev pub can_take : Permits → List ℕ → ℕ → Bool
can_take permits queue n = nat_le n permits.free && (not permits.is_fair || (is_empty queue || n == 0))

-- the permits that a poll granted are held
abbrev pub AreHeld : Poll ℕ → ℕ → Type 0
AreHeld (Ready permits) held = permits ≤ held
AreHeld Pending held = ⊤

module _ {W : Type 0} where
  abbrev pub at_own : Permits → Waiting ℕ W → SemaphoreMachine W
  at_own permits waiting = record { own = permits; waiting = waiting }

  abbrev pub opened : Bool → ℕ → SemaphoreMachine W
  opened is_fair permits = initial (record { is_fair = is_fair; free = permits; held = 0; asked = NoNeed })

  -- how many permits a future needs
  abbrev pub need_of : Waiters ℕ W → ℕ → ℕ
  need_of side name = unwrap_or (asks_of side name) 0

  -- A telling round: the longest front of the queue whose needs together are free is told. It keeps its places if the semaphore is
  -- fair, and else leaves the queue.
  abbrev pub Tells : SemaphoreMachine W → SemaphoreMachine W → Type 0
  Tells old new = (front : List ℕ) × IsLongestFit (need_of old.waiting.side) old.own.free old.waiting.side.queue front
      × StepsTo old old.own (NotifiesFront old.own.is_fair front) new

  -- Afterwards the semaphore has these permits, and the waiters took this effect; if the test succeeds, a telling round followed.
  abbrev pub StepsTelling : Bool → SemaphoreMachine W → Permits → WaiterEffect ℕ W → SemaphoreMachine W → Type 0
  StepsTelling true old permits effect new =
      (mid : Waiting ℕ W) × TakesEffect effect old.waiting mid × Tells (record { own = permits; waiting = mid }) new
  StepsTelling false old permits effect new = StepsTo old permits effect new

  -- A fresh future that needs this many permits, of a name that was not live.
  abbrev pub Makes : SemaphoreMachine W → ℕ → ℕ → SemaphoreMachine W → Type 0
  Makes old need name new = StepsTo old (record old.own { asked = asked_after old.own.asked need }) (Inserts name need) new

  -- Whether a poll of a future of this phase grants it the permits that it needs. One that waits in a fair semaphore has to be told
  -- first.
  abbrev pub is_granted : Option (Phase W) → SemaphoreMachine W → ℕ → Bool
  is_granted (Some Fresh) state need = can_take state.own state.waiting.side.queue need
  is_granted (Some (Registered waker)) state need = not state.own.is_fair && nat_le need state.own.free
  is_granted (Some Told) state need = nat_le need state.own.free
  is_granted phase state need = false

  -- A poll of a future of this phase, which is granted this need or not; it answers how many permits it was granted.
  abbrev pub PollsAs : Option (Phase W) → Bool → ℕ → SemaphoreMachine W → ℕ → W → Poll ℕ → SemaphoreMachine W → Type 0
  -- a fresh one ends if it is granted, and else registers
  PollsAs (Some Fresh) true need old name waker answer new = (answer ≡ Ready need) × StepsTo old (granted old.own need) (Ends name) new
  PollsAs (Some Fresh) false need old name waker answer new = (answer ≡ Pending) × StepsTo old old.own (Registers name waker) new
  -- a registered one ends if it is granted, and else stays pending with its newest waker
  PollsAs (Some (Registered before)) true need old name waker answer new = (answer ≡ Ready need) ×
      StepsTo old (granted old.own need) (EndsPlaced name) new
  PollsAs (Some (Registered before)) false need old name waker answer new = (answer ≡ Pending) ×
      StepsTo old old.own (KeepsWaiting name waker) new
  -- a told one ends if it is granted, and in a fair semaphore a telling round follows; in an unfair one it may have to wait again, as
  -- the youngest
  PollsAs (Some Told) true need old name waker answer new = (answer ≡ Ready need) ×
      StepsTelling old.own.is_fair old (granted old.own need) (EndsPlaced name) new
  PollsAs (Some Told) false need old name waker answer new = (old.own.is_fair ≡ false) × (answer ≡ Pending) ×
      StepsTo old old.own (Registers name waker) new
  -- no other is polled
  PollsAs phase granting need old name waker answer new = ⊥

  abbrev pub PollsNeeding : ℕ → SemaphoreMachine W → ℕ → W → Poll ℕ → SemaphoreMachine W → Type 0
  PollsNeeding need old name waker answer new =
      PollsAs (phase_at old name) (is_granted (phase_at old name) old need) need old name waker answer new

  abbrev pub Polls : SemaphoreMachine W → ℕ → W → Poll ℕ → SemaphoreMachine W → Type 0
  Polls old name waker answer new = PollsNeeding (need_of old.waiting.side name) old name waker answer new

  -- whether a telling round follows the cancel of a future of this phase: of a told one, and in a fair semaphore of a registered one
  abbrev pub cancel_tells : Bool → Option (Phase W) → Bool
  cancel_tells is_fair (Some Told) = true
  cancel_tells is_fair (Some (Registered waker)) = is_fair
  cancel_tells is_fair phase = false

  -- The future leaves the semaphore, and a notice that it did not use is passed on.
  abbrev pub Cancels : SemaphoreMachine W → ℕ → SemaphoreMachine W → Type 0
  Cancels old name new = StepsTelling (cancel_tells old.own.is_fair (phase_at old name)) old old.own (Removes name) new

  -- A try for n permits, which are granted or not.
  abbrev pub TriesAcquire : SemaphoreMachine W → ℕ → Bool → SemaphoreMachine W → Type 0
  TriesAcquire old n granting new = (granting ≡ can_take old.own old.waiting.side.queue n) ×
      StepsTo old (if granting then granted old.own n else old.own) NoChange new

  -- n more permits are free, where all permits can still be counted. A telling round follows if n is not 0.
  abbrev pub Releases : SemaphoreMachine W → ℕ → SemaphoreMachine W → Type 0
  Releases old n new = (old.own.free + old.own.held + n < 2 ^ 64) ×
      StepsTelling (nat_lt 0 n) old (record old.own { free = old.own.free + n }) NoChange new

  -- n of the held permits are free again. A telling round follows if n is not 0.
  abbrev pub GivesBack : SemaphoreMachine W → ℕ → SemaphoreMachine W → Type 0
  GivesBack old n new = (n ≤ old.own.held) ×
      StepsTelling (nat_lt 0 n) old (record old.own { free = old.own.free + n; held = old.own.held - n }) NoChange new

  -- n of the held permits are there no longer.
  abbrev pub Disarms : SemaphoreMachine W → ℕ → SemaphoreMachine W → Type 0
  Disarms old n new = (n ≤ old.own.held) × StepsTo old (record old.own { held = old.own.held - n }) NoChange new

  -- The queue holds the registered futures, and in a fair semaphore the told ones; no future is complete. All permits can be counted.
  -- Each need is among those asked for so far, and one who was registered or told and has not been polled since needs more than 0.
  pub record IsSound (state : SemaphoreMachine W) : Type 0 where
    pub waiters : HasSoundWaitersBy (is_queued state.own.is_fair) is_wait_phase state
    pub counted : state.own.free + state.own.held < 2 ^ 64
    pub among : (name : ℕ) → IsAmong state.own.asked (need_of state.waiting.side name)
    pub needs : (name : ℕ) → is_queued true (phase_at state name) ≡ true → 0 < need_of state.waiting.side name

  -- Of a fair semaphore: the told are a front of the queue, their needs together are free, and the oldest is told exactly if its need
  -- is free.
  pub record OwesNoWakeFair (free : ℕ) (side : Waiters ℕ W) : Type 0 where
    pub told : List ℕ
    pub rest : List ℕ
    pub front : IsToldFront side told rest
    pub fits : sum_by (need_of side) told ≤ free
    pub oldest : (next : ℕ) (later : List ℕ) → side.queue ≡ next ∷ later →
        is_told (phase_of side next) ≡ nat_le (need_of side next) free

  -- Of an unfair semaphore whose futures all needed this many: if one is registered, the told and one more need more than is free.
  pub record OwesNoWakeUnfair (free only : ℕ) (side : Waiters ℕ W) : Type 0 where
    pub told : List ℕ
    pub are : AreTold side told
    pub enough : (name : ℕ) → is_registered (phase_of side name) ≡ true → free < (length told + 1) * only

  -- Where the futures of an unfair semaphore needed different numbers, nothing is claimed.
  abbrev pub OwesNoWakeIf : Bool → Asked → ℕ → Waiters ℕ W → Type 0
  OwesNoWakeIf true asked free side = OwesNoWakeFair free side
  OwesNoWakeIf false (OneNeed only) free side = OwesNoWakeUnfair free only side
  OwesNoWakeIf false asked free side = ⊤

  -- No wake is owed.
  abbrev pub OwesNoWake : SemaphoreMachine W → Type 0
  OwesNoWake state = OwesNoWakeIf state.own.is_fair state.own.asked state.own.free state.waiting.side
