-- What a history of a semaphore says. A history is a list of calls with their answers, the newest first, since some first state.
use Rattle.std.specs.Prelude.{◌≡◌, ◌+◌, ◌⊎◌, ⊤, ℕ, true, List, [], ◌∷◌, ◌++◌}
use Rattle.fi_parts.specs.Machine.{phase_at}
use Rattle.fi_parts.specs.Order.{holds}
use Rattle.fi_parts.specs.Places.{is_told}
use Rattle.fi_parts.specs.WakerHistory.{WakerChange, KeepsWakers}
use Rattle.fi_locks.specs.Semaphore.{SemaphoreMachine, need_of}
use Rattle.fi_run.specs.declared.answer.Answer.{Answer}
use Rattle.fi_run.specs.declared.answer.Answer.TheVariants.{Ready, Done, Refused}
use Rattle.fi_run.specs.declared.semaphore.SemaphoreCall.{SemaphoreCall}
use Rattle.fi_run.specs.declared.semaphore.SemaphoreCall.TheVariants.{Poll, Cancel, TryAcquire, Release, Disarm}
use Rattle.fi_run.specs.FirstPolls.{order_after}
use Rattle.fi_run.specs.Semaphore.{Step}
use Rattle.fi_run.specs.WakerChanges.{Subject, on_wakers}
use Rattle.fi_run.specs.WakerChanges.Subject.{Polling, Cancelling, Other}

module _ {W : Type 0} where
  -- how many permits a release adds
  abbrev pub released_by : SemaphoreCall W → Answer ℕ W → ℕ
  released_by (Release n) Done = n
  released_by call answer = 0

  -- how many permits a disarm takes away
  abbrev pub disarmed_by : SemaphoreCall W → Answer ℕ W → ℕ
  disarmed_by (Disarm n) Done = n
  disarmed_by call answer = 0

  -- how many permits the releases that were accepted added
  abbrev pub released : List (SemaphoreCall W × Answer ℕ W) → ℕ
  released [] = 0
  released (entry ∷ history) = released_by entry.0 entry.1 + released history

  -- how many permits the disarms that were accepted took away
  abbrev pub disarmed : List (SemaphoreCall W × Answer ℕ W) → ℕ
  disarmed [] = 0
  disarmed (entry ∷ history) = disarmed_by entry.0 entry.1 + disarmed history

  -- The permits, free and held, are those of the first state and those released since, but for those disarmed.
  abbrev pub PermitsAddUp : SemaphoreMachine W → List (SemaphoreCall W × Answer ℕ W) → SemaphoreMachine W → Type 0
  PermitsAddUp first history state =
      state.own.free + state.own.held + disarmed history ≡ first.own.free + first.own.held + released history

  -- a fair semaphore
  abbrev pub IsFair : SemaphoreMachine W → Type 0
  IsFair semaphore = semaphore.own.is_fair ≡ true

  -- whom a call concerns
  abbrev pub subject : SemaphoreCall W → Subject W
  subject (Poll slot waker) = Polling slot.0 waker
  subject (Cancel slot) = Cancelling slot.0
  subject call = Other

  abbrev pub effect_of : SemaphoreCall W × Answer ℕ W → WakerChange W
  effect_of entry = on_wakers (subject entry.0) entry.1

  -- The futures that were polled and neither granted nor cancelled since, in the order of their first polls. Those that were
  -- queued in the first state come before, in their order there.
  abbrev pub waiting_after : SemaphoreMachine W → List (SemaphoreCall W × Answer ℕ W) → List ℕ
  waiting_after first history = order_after effect_of first.waiting.side.queue history

  -- The told are the first of those that wait, in the order of their first polls, and nobody else is told.
  pub record AreToldInOrder (first : SemaphoreMachine W) (history : List (SemaphoreCall W × Answer ℕ W))
      (state : SemaphoreMachine W) : Type 0 where
    pub told : List ℕ
    pub rest : List ℕ
    pub first_told : waiting_after first history ≡ told ++ rest
    pub all : (name : ℕ) → is_told (phase_at state name) ≡ holds name told

  -- A call in this state with its answer, while these wait: a grant is to a future that was told, or nobody waits, or no permits are
  -- asked for.
  abbrev pub IsInTurn : List ℕ → SemaphoreMachine W → SemaphoreCall W → Answer ℕ W → Type 0
  IsInTurn waiting state call (Refused fault) = ⊤
  IsInTurn waiting state (Poll slot waker) Ready =
      (is_told (phase_at state slot.0) ≡ true) ⊎ ((waiting ≡ []) ⊎ (need_of state.waiting.side slot.0 ≡ 0))
  IsInTurn waiting state (TryAcquire n) Done = (waiting ≡ []) ⊎ (n ≡ 0)
  IsInTurn waiting state call answer = ⊤

  -- Whichever call comes next: a newcomer that asks for permits is granted them only if nobody waits.
  abbrev pub NewcomersComeLast : SemaphoreMachine W → List (SemaphoreCall W × Answer ℕ W) → SemaphoreMachine W → Type 0
  NewcomersComeLast first history state = (call : SemaphoreCall W) (answer : Answer ℕ W) (next : SemaphoreMachine W) →
      Step state call answer next → IsInTurn (waiting_after first history) state call answer

  -- The waker of a pending future's last poll is registered, or stands in out beside its name, or was handed out since.
  abbrev pub WakersAreKept : SemaphoreMachine W → List (SemaphoreCall W × Answer ℕ W) → SemaphoreMachine W → Type 0
  WakersAreKept first history state = KeepsWakers effect_of first.waiting history state.waiting

  -- What holds of a first state, the history since, and the state now.
  pub record HistoryHolds (first : SemaphoreMachine W) (history : List (SemaphoreCall W × Answer ℕ W))
      (state : SemaphoreMachine W) : Type 0 where
    pub permits : PermitsAddUp first history state
    pub is_fair : state.own.is_fair ≡ first.own.is_fair
    pub waiting : IsFair first → waiting_after first history ≡ state.waiting.side.queue
    pub wakers : WakersAreKept first history state
