-- What a future of a timer that threads share does in it.
use Rattle.std.specs.Prelude.{◌≡◌, ◌+◌, ◌-◌, ◌^◌, ℕ, min, Option, Some, None, Result, unwrap_or}
use Rattle.futures.specs.declared.task.Poll.{Poll}
use Rattle.fi_channels.specs.Polled.{Answered}
use Rattle.fi_locks.specs.Timer.{TimerMachine, can_be_polled, expiry_after, Makes, Polls, Checks}
use Rattle.fi_parts.specs.Deadlines.{IsNextExpiry}
use Rattle.fi_parts.specs.declared.errors.Fault.{Fault}
use Rattle.fi_sync.specs.Waiting.{PollsAt, WouldWait}
use Rattle.fi_sync.specs.declared.timer.timed.Runner.{Runner}

-- A poll is the timer's at some moment; the timer refuses none. That the moment is the clock's is not said.
abbrev pub PollsTimed : {S W : Type 0} → (S → TimerMachine W) → TimerMachine W → ℕ → W → Poll (Result (Unit {0}) Fault) → S → Type 0
PollsTimed timer_of old name waker answer new =
    (now : ℕ) × Answered (λ polled timed. Polls old name now waker polled (timer_of timed)) (λ fault timed. ⊥) answer new

-- A poll under this name would have to wait at some moment. That this is the clock's is not said.
abbrev pub WaitsTimed : {W : Type 0} → TimerMachine W → ℕ → Type 0
WaitsTimed timer name =
    (now : ℕ) × WouldWait (PollsAt can_be_polled (λ old name. Polls old name now)) timer name

-- A future is made for the moment so many nanoseconds after some moment. That this moment is the clock's is not said.
abbrev pub DelaysTimed : {W : Type 0} → TimerMachine W → ℕ → ℕ → TimerMachine W → Type 0
DelaysTimed old nanos name new = (now : ℕ) × Makes old (expiry_after now nanos) name new

-- how long it is from this moment to the next expiry, and at most so long
abbrev pub left_until : ℕ → ℕ → Option ℕ → ℕ
left_until now at_most next = min (unwrap_or next (2 ^ 64 - 1) - now) at_most

-- the runner, if there is one, with its next check at this moment
abbrev pub planned_for : Option Runner → ℕ → Option Runner
planned_for None moment = None
planned_for (Some runner) moment = Some (record runner { next_check = moment })

-- A check at some moment, which answers how long it is from then to the next expiry, at most so long, and plans the runner's next check
-- for when that time is over. That the moment is the clock's is not said.
abbrev pub ChecksAndPlans : {W : Type 0} → TimerMachine W → Option Runner → ℕ → ℕ → TimerMachine W → Option Runner → Type 0
ChecksAndPlans old runner at_most left new planned =
    (now : ℕ) × (next : Option ℕ) × Checks old now new × IsNextExpiry new.waiting.side next × (left ≡ left_until now at_most next)
    × (planned ≡ planned_for runner (min (now + left) (2 ^ 64 - 1)))
