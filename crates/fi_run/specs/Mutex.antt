-- The mutex's machine as a table of calls and answers.
use Rattle.std.specs.Prelude.{◌≡◌, Bool, List, false, not, None, Some, Ok, Err}
use Rattle.futures.specs.declared.task.Poll.TheVariants as polled
use Rattle.fi_parts.specs.declared.errors.Fault.{Fault}
use Rattle.fi_parts.specs.declared.errors.Fault.TheVariants.{NoMemory, NoSlot, NotHeld}
use Rattle.fi_parts.specs.Machine.{phase_at}
use Rattle.fi_locks.specs.Mutex.{MutexMachine, opened, is_free, can_be_polled, Makes, Polls, Cancels, TriesLock}
use Rattle.fi_locks.specs.Mutex.{Unlocks, Wakes}
use Rattle.fi_locks.specs.Mutex.{IsSound, OwesNoWake}
use Rattle.fi_run.specs.Run.{AfterEveryRun}
use Rattle.fi_run.specs.declared.answer.Answer.{Answer}
use Rattle.fi_run.specs.declared.answer.Answer.TheVariants.{Made, Pending, Item, Nothing, Done, Flag, Woken, Back, Refused}
use Rattle.fi_run.specs.declared.mutex.MutexCall.{MutexCall}
use Rattle.fi_run.specs.declared.mutex.MutexCall.TheVariants.{Lock, Poll, Cancel, TryLock, Unlock, IsLocked, NextWake}

module _ {T W : Type 0} where
  -- when a call may be refused with this fault
  abbrev pub MayRefuse : MutexMachine T W → MutexCall T W → Fault → Type 0
  MayRefuse old Lock NoMemory = Unit {0}
  MayRefuse old (Poll slot waker) NoSlot = can_be_polled (phase_at old slot.0) ≡ false
  MayRefuse old (Cancel slot) NoSlot = phase_at old slot.0 ≡ None
  MayRefuse old call fault = ⊥

  -- From old, a mutex may give this answer to the call and go on to new.
  abbrev pub Step : MutexMachine T W → MutexCall T W → Answer T W → MutexMachine T W → Type 0
  Step old call (Refused fault) new = MayRefuse old call fault × (new ≡ old)
  Step old Lock (Made slot) new = Makes old slot.0 new
  Step old (Poll slot waker) Pending new = Polls old slot.0 waker polled.Pending new
  Step old (Poll slot waker) (Item value) new = Polls old slot.0 waker (polled.Ready value) new
  Step old (Cancel slot) Done new = Cancels old slot.0 new
  Step old TryLock (Item value) new = TriesLock old (Some value) new
  Step old TryLock Nothing new = TriesLock old None new
  Step old (Unlock value) Done new = Unlocks old value (Ok tt) new
  Step old (Unlock value) (Back given NotHeld) new = (given ≡ value) × Unlocks old value (Err value) new
  Step old IsLocked (Flag flag) new = (flag ≡ not (is_free old)) × (new ≡ old)
  Step old NextWake (Woken waker) new = Wakes old waker new
  Step old call answer new = ⊥

  -- the value, and whether it is fair
  abbrev pub Opens : T × Bool → MutexMachine T W → Type 0
  Opens opening state = state ≡ opened opening.0 opening.1

  -- This holds after every run of a mutex from a state that is sound and owes no wake: of that state, the history since, and the
  -- state at the end.
  abbrev pub InEveryRun : (MutexMachine T W → List (MutexCall T W × Answer T W) → MutexMachine T W → Type 0) → Type 0
  InEveryRun holds = AfterEveryRun IsSound OwesNoWake Step holds
