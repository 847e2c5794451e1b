-- What a history of a mutex says. A history is a list of calls with their answers, the newest first, since some first state.
use Rattle.std.specs.Prelude.{◌≡◌, ◌⊎◌, ⊤, ℕ, true, if◌then◌else◌, Option, Some, None, is_some, List, [], ◌∷◌, ◌++◌}
use Rattle.fi_parts.specs.Effects.{first_of}
use Rattle.fi_parts.specs.Order.{holds, without}
use Rattle.fi_parts.specs.WakerHistory.{KeepsWakers}
use Rattle.fi_locks.specs.Mutex.{MutexMachine, queue_of}
use Rattle.fi_run.specs.declared.answer.Answer.{Answer}
use Rattle.fi_run.specs.declared.answer.Answer.TheVariants.{Pending, Item, Done, Back, Refused}
use Rattle.fi_run.specs.declared.mutex.MutexCall.{MutexCall}
use Rattle.fi_run.specs.declared.mutex.MutexCall.TheVariants.{Poll, Cancel, TryLock, Unlock}
use Rattle.fi_run.specs.WakerChanges.{Subject, on_wakers}
use Rattle.fi_run.specs.WakerChanges.Subject.{Polling, Cancelling, Other}

module _ {T W : Type 0} where
  abbrev pub value_step : MutexCall T W → Answer T W → Option T → Option T
  value_step call (Refused fault) there = there
  value_step (Poll slot waker) (Item value) there = None
  value_step TryLock (Item value) there = None
  value_step (Unlock value) Done there = Some value
  value_step call answer there = there

  -- The value that was put back by the last unlock and not granted since; None: it was granted. Before the first of both it is what
  -- the first state has.
  abbrev pub value_after : MutexMachine T W → List (MutexCall T W × Answer T W) → Option T
  value_after first [] = first.own.value
  value_after first (entry ∷ history) = value_step entry.0 entry.1 (value_after first history)

  -- a call with its answer, where this value was there
  abbrev pub IsGrantOf : Option T → MutexCall T W → Answer T W → Type 0
  IsGrantOf there call (Refused fault) = ⊤
  IsGrantOf there (Poll slot waker) (Item value) = there ≡ Some value
  IsGrantOf there TryLock (Item value) = there ≡ Some value
  IsGrantOf there (Unlock value) Done = there ≡ None
  IsGrantOf there (Unlock value) (Back given fault) = is_some there ≡ true
  IsGrantOf there call answer = ⊤

  -- Each grant hands out the value that was put back by the last unlock, which no other grant has taken since: between two grants
  -- there is an unlock. An unlock is accepted only after a grant that no other unlock has ended, and else refused.
  abbrev pub GrantsAlternate : MutexMachine T W → List (MutexCall T W × Answer T W) → Type 0
  GrantsAlternate first [] = ⊤
  GrantsAlternate first (entry ∷ history) = IsGrantOf (value_after first history) entry.0 entry.1 × GrantsAlternate first history

  abbrev pub waiting_step : MutexCall T W → Answer T W → List ℕ → List ℕ
  waiting_step call (Refused fault) waiting = waiting
  waiting_step (Poll slot waker) Pending waiting = if holds slot.0 waiting then waiting else waiting ++ slot.0 ∷ []
  waiting_step (Poll slot waker) (Item value) waiting = without slot.0 waiting
  waiting_step (Cancel slot) Done waiting = without slot.0 waiting
  waiting_step call answer waiting = waiting

  -- The futures that were polled and neither granted nor cancelled since, in the order of their first polls. Those that were
  -- queued in the first state come first, in their order there.
  abbrev pub waiting_after : MutexMachine T W → List (MutexCall T W × Answer T W) → List ℕ
  waiting_after first [] = queue_of first
  waiting_after first (entry ∷ history) = waiting_step entry.0 entry.1 (waiting_after first history)

  -- a call with its answer, while these wait
  abbrev pub IsInTurn : List ℕ → MutexCall T W → Answer T W → Type 0
  IsInTurn waiting call (Refused fault) = ⊤
  IsInTurn waiting (Poll slot waker) (Item value) = (waiting ≡ []) ⊎ (holds slot.0 (first_of waiting) ≡ true)
  IsInTurn waiting TryLock (Item value) = waiting ≡ []
  IsInTurn waiting call answer = ⊤

  -- Each grant to a future is to the one that was polled first of all those that wait, or nobody waits; a lock that was tried is
  -- granted only if nobody waits.
  abbrev pub GrantsAreInTurn : MutexMachine T W → List (MutexCall T W × Answer T W) → Type 0
  GrantsAreInTurn first [] = ⊤
  GrantsAreInTurn first (entry ∷ history) = IsInTurn (waiting_after first history) entry.0 entry.1 × GrantsAreInTurn first history

  -- a fair mutex
  abbrev pub IsFair : MutexMachine T W → Type 0
  IsFair mutex = mutex.own.is_fair ≡ true

  -- whom a call concerns
  abbrev pub subject : MutexCall T W → Subject W
  subject (Poll slot waker) = Polling slot.0 waker
  subject (Cancel slot) = Cancelling slot.0
  subject call = Other

  -- The waker of a pending future's last poll is registered, or stands in out beside its name, or was handed out since.
  abbrev pub WakersAreKept : MutexMachine T W → List (MutexCall T W × Answer T W) → MutexMachine T W → Type 0
  WakersAreKept first history state =
      KeepsWakers (λ entry. on_wakers (subject entry.0) entry.1) first.waiting history state.waiting

  -- What holds of a first state, the history since, and the state now.
  pub record HistoryHolds (first : MutexMachine T W) (history : List (MutexCall T W × Answer T W))
      (state : MutexMachine T W) : Type 0 where
    pub value : value_after first history ≡ state.own.value
    pub grants : GrantsAlternate first history
    pub is_fair : state.own.is_fair ≡ first.own.is_fair
    pub waiting : IsFair first → waiting_after first history ≡ queue_of state
    pub turns : IsFair first → GrantsAreInTurn first history
    pub wakers : WakersAreKept first history state
