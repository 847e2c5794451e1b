-- What the futures of a semaphore that threads share do.
use Rattle.std.specs.Prelude.{◌≡◌, ℕ, Bool, true, false, Option, Some, None, Result, Err}
use Rattle.futures.specs.declared.task.Poll.{Poll}
use Rattle.futures.specs.declared.task.Poll.TheVariants.{Ready}
use Rattle.futures.specs.declared.task.waker.Waker.{Waker}
use Rattle.fi_locks.specs.Semaphore.{can_be_polled, Polls, Cancels}
use Rattle.fi_parts.specs.declared.errors.Fault.{Fault}
use Rattle.fi_parts.specs.declared.phase.Leftover.{Leftover}
use Rattle.fi_sync.specs.Closable.{Closable, OnPermits}
use Rattle.fi_sync.specs.Waiting.{PollsAt, CancelsAt, IsUntimedAnswer, leftover_at}

-- A poll of a closed semaphore's future answers so, and changes nothing; that of an open one is its machine's.
abbrev pub PollsAcquireAt : Bool → Closable (Option Waker) → ℕ → Option Waker → Poll (Result ℕ Fault)
    → Closable (Option Waker) → Type 0
PollsAcquireAt true old name waker answer new = (answer ≡ Ready (Err Fault.Closed)) × (new ≡ old)
PollsAcquireAt false old name waker answer new =
    OnPermits (λ before after. PollsAt can_be_polled Polls before name waker answer after) old new

-- A poll of a future that acquires permits, under this name, may answer this and go on from old to new.
abbrev pub PollsAcquire : Closable (Option Waker) → ℕ → Option Waker → Poll (Result ℕ Fault)
    → Closable (Option Waker) → Type 0
PollsAcquire old name waker answer new = PollsAcquireAt old.is_closed old name waker answer new

-- the wakers of no more use after such a poll: of a closed semaphore's future the cancel that follows gives its own
abbrev pub leftover_if : Bool → Closable (Option Waker) → ℕ → Option Waker → Poll (Result ℕ Fault) → Leftover (Option Waker)
leftover_if true old name waker answer = record { displaced = None; unused = Some waker }
leftover_if false old name waker answer = leftover_at old.permits name waker answer

abbrev pub leftover_of_acquire : Closable (Option Waker) → ℕ → Option Waker → Poll (Result ℕ Fault) → Leftover (Option Waker)
leftover_of_acquire old name waker answer = leftover_if old.is_closed old name waker answer

-- A cancel of a future that acquires permits, under this name.
abbrev pub CancelsAcquire : Closable (Option Waker) → ℕ → Option (Option Waker) → Closable (Option Waker) → Type 0
CancelsAcquire old name left new = OnPermits (λ before after. CancelsAt Cancels before name left after) old new

-- What a future that acquires permits answers: it stays pending where it has ended. Else it answers as its semaphore did in some hold of
-- the lock, where it was polled under the future's own name, or that it has no memory where it had to wait and no waker could be made.
abbrev pub IsAcquireAnswer : Option ℕ → Bool → Bool → Poll (Result ℕ Fault) → Type 0
IsAcquireAnswer own has_ended lacks_waker answer =
    IsUntimedAnswer PollsAcquire (Err Fault.NoMemory) own has_ended lacks_waker answer
