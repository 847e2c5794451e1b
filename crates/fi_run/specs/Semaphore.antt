-- The semaphore's machine as a table of calls and answers.
use Rattle.std.specs.Prelude.{◌≡◌, ◌+◌, ◌^◌, ◌<◌, ◌≤◌, ℕ, Bool, List, true, false, None}
use Rattle.futures.specs.declared.task.Poll.TheVariants as polled
use Rattle.fi_parts.specs.declared.errors.Fault.{Fault}
use Rattle.fi_parts.specs.declared.errors.Fault.TheVariants.{NoMemory, NoSlot, Overflow, NotHeld}
use Rattle.fi_parts.specs.Machine.{phase_at}
use Rattle.fi_locks.specs.Semaphore.{SemaphoreMachine, opened, can_be_polled, need_of, Makes, Polls, Cancels}
use Rattle.fi_locks.specs.Semaphore.{TriesAcquire, Releases}
use Rattle.fi_locks.specs.Semaphore.{GivesBack, Disarms, Wakes, IsSound, OwesNoWake}
use Rattle.fi_run.specs.Run.{AfterEveryRun}
use Rattle.fi_run.specs.declared.answer.Answer.{Answer}
use Rattle.fi_run.specs.declared.answer.Answer.TheVariants.{Made, Pending, Ready, Nothing, Done, Number, Woken, Refused}
use Rattle.fi_run.specs.declared.semaphore.SemaphoreCall.{SemaphoreCall}
use Rattle.fi_run.specs.declared.semaphore.SemaphoreCall.TheVariants.{Acquire, Poll, Cancel, TryAcquire, Release}
use Rattle.fi_run.specs.declared.semaphore.SemaphoreCall.TheVariants.{GiveBack, Disarm}
use Rattle.fi_run.specs.declared.semaphore.SemaphoreCall.TheVariants.{Permits, Held, NextWake}

module _ {W : Type 0} where
  -- when a call may be refused with this fault
  abbrev pub MayRefuse : SemaphoreMachine W → SemaphoreCall W → Fault → Type 0
  MayRefuse old (Acquire need) NoMemory = Unit {0}
  MayRefuse old (Poll slot waker) NoSlot = can_be_polled (phase_at old slot.0) ≡ false
  MayRefuse old (Cancel slot) NoSlot = phase_at old slot.0 ≡ None
  MayRefuse old (Release n) Overflow = 2 ^ 64 ≤ old.own.free + old.own.held + n
  MayRefuse old (GiveBack n) NotHeld = old.own.held < n
  MayRefuse old (Disarm n) NotHeld = old.own.held < n
  MayRefuse old call fault = ⊥

  -- From old, a semaphore may give this answer to the call and go on to new.
  abbrev pub Step : SemaphoreMachine W → SemaphoreCall W → Answer ℕ W → SemaphoreMachine W → Type 0
  Step old call (Refused fault) new = MayRefuse old call fault × (new ≡ old)
  Step old (Acquire need) (Made slot) new = Makes old need slot.0 new
  Step old (Poll slot waker) Pending new = Polls old slot.0 waker polled.Pending new
  -- it is granted what it needs
  Step old (Poll slot waker) Ready new = Polls old slot.0 waker (polled.Ready (need_of old.waiting.side slot.0)) new
  Step old (Cancel slot) Done new = Cancels old slot.0 new
  Step old (TryAcquire n) Done new = TriesAcquire old n true new
  Step old (TryAcquire n) Nothing new = TriesAcquire old n false new
  Step old (Release n) Done new = Releases old n new
  Step old (GiveBack n) Done new = GivesBack old n new
  Step old (Disarm n) Done new = Disarms old n new
  Step old Permits (Number n) new = (n ≡ old.own.free) × (new ≡ old)
  Step old Held (Number n) new = (n ≡ old.own.held) × (new ≡ old)
  Step old NextWake (Woken waker) new = Wakes old waker new
  Step old call answer new = ⊥

  -- the permits, as many as a usize counts, and whether it is fair
  abbrev pub Opens : ℕ × Bool → SemaphoreMachine W → Type 0
  Opens opening state = (opening.0 < 2 ^ 64) × (state ≡ opened opening.1 opening.0)

  -- This holds after every run of a semaphore from a state that is sound and owes no wake: of that state, the history since, and the
  -- state at the end.
  abbrev pub InEveryRun : (SemaphoreMachine W → List (SemaphoreCall W × Answer ℕ W) → SemaphoreMachine W → Type 0) → Type 0
  InEveryRun holds = AfterEveryRun IsSound OwesNoWake Step holds
