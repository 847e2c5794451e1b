-- The timer's machine as a table of calls and answers.
use Rattle.std.specs.Prelude.{◌≡◌, ℕ, List, false, None}
use Rattle.std.specs.Duration.{as_nanos}
use Rattle.futures.specs.declared.task.Poll.TheVariants as polled
use Rattle.fi_parts.specs.declared.errors.Fault.{Fault}
use Rattle.fi_parts.specs.declared.errors.Fault.TheVariants.{NoMemory, NoSlot}
use Rattle.fi_parts.specs.Deadlines.{IsNextExpiry}
use Rattle.fi_parts.specs.Machine.{phase_at}
use Rattle.fi_run.specs.declared.answer.Answer.{Answer}
use Rattle.fi_run.specs.declared.answer.Answer.TheVariants.{Made, Pending, Ready, Done, Moment, Woken, Refused}
use Rattle.fi_run.specs.declared.timer.TimerCall.{TimerCall}
use Rattle.fi_run.specs.declared.timer.TimerCall.TheVariants.{Deadline, Delay, Poll, Cancel, Check, Next, NextWake}
use Rattle.fi_locks.specs.Timer.{TimerMachine, opened, expiry_after, can_be_polled, Makes, Polls, Cancels, Checks}
use Rattle.fi_locks.specs.Timer.{Wakes}
use Rattle.fi_locks.specs.Timer.{IsSound, OwesNoWake}
use Rattle.fi_run.specs.Run.{AfterEveryRun}

module _ {W : Type 0} where
  -- when a call may be refused with this fault
  abbrev pub MayRefuse : TimerMachine W → TimerCall W → Fault → Type 0
  MayRefuse old (Deadline expiry) NoMemory = Unit {0}
  MayRefuse old (Delay now delay) NoMemory = Unit {0}
  MayRefuse old (Poll slot now waker) NoSlot = can_be_polled (phase_at old slot.0) ≡ false
  MayRefuse old (Cancel slot) NoSlot = phase_at old slot.0 ≡ None
  MayRefuse old call fault = ⊥

  -- From old, a timer may give this answer to the call and go on to new.
  abbrev pub Step : TimerMachine W → TimerCall W → Answer ℕ W → TimerMachine W → Type 0
  Step old call (Refused fault) new = MayRefuse old call fault × (new ≡ old)
  Step old (Deadline expiry) (Made slot) new = Makes old expiry slot.0 new
  Step old (Delay now delay) (Made slot) new = Makes old (expiry_after now (as_nanos delay)) slot.0 new
  Step old (Poll slot now waker) Ready new = Polls old slot.0 now waker (polled.Ready tt) new
  Step old (Poll slot now waker) Pending new = Polls old slot.0 now waker polled.Pending new
  Step old (Cancel slot) Done new = Cancels old slot.0 new
  Step old (Check now) Done new = Checks old now new
  Step old Next (Moment expiry) new = IsNextExpiry old.waiting.side expiry × (new ≡ old)
  Step old NextWake (Woken waker) new = Wakes old waker new
  Step old call answer new = ⊥

  abbrev pub Opens : Unit {0} → TimerMachine W → Type 0
  Opens opening state = state ≡ opened

  -- This holds after every run of a timer from a state that is sound and owes no wake: of that state, the history since, and the
  -- state at the end.
  abbrev pub InEveryRun : (TimerMachine W → List (TimerCall W × Answer ℕ W) → TimerMachine W → Type 0) → Type 0
  InEveryRun holds = AfterEveryRun IsSound OwesNoWake Step holds
