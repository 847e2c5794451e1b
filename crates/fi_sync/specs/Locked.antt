-- What a mutex that threads share has beside its state, and what its futures do.
use Rattle.std.specs.Prelude.{ℕ, Bool, true, false, Option, Result, Err}
use Rattle.futures.specs.declared.task.Poll.{Poll}
use Rattle.futures.specs.declared.task.waker.Waker.{Waker}
use Rattle.fi_locks.specs.Mutex.{MutexMachine, can_be_polled, Polls}
use Rattle.fi_parts.specs.declared.errors.Fault.{Fault}
use Rattle.fi_sync.specs.Waiting.{PollsAt, IsUntimedAnswer}

-- how many holds of a mutex there are, that is free or not
abbrev pub holds_if : Bool → ℕ
holds_if true = 0
holds_if false = 1

-- A poll of a future that locks a mutex, under this name, may answer this and go on from old to new.
abbrev pub PollsLock : {T : Type 0} → MutexMachine T (Option Waker) → ℕ → Option Waker → Poll (Result T Fault)
    → MutexMachine T (Option Waker) → Type 0
PollsLock = PollsAt can_be_polled Polls

-- What a future that locks a mutex answers: it stays pending where it has ended. Else it answers as its mutex did in some hold of the
-- lock, where it was polled under the future's own name, or that it has no memory where it had to wait and no waker could be made.
abbrev pub IsLockAnswer : {T : Type 0} → Option ℕ → Bool → Bool → Poll (Result T Fault) → Type 0
IsLockAnswer {T} own has_ended lacks_waker answer =
    IsUntimedAnswer (PollsLock {T = T}) (Err Fault.NoMemory) own has_ended lacks_waker answer
