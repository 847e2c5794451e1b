-- The event's machine as a table of calls and answers.
use Rattle.std.specs.Prelude.{◌≡◌, ℕ, Bool, List, false, None}
use Rattle.futures.specs.declared.task.Poll.TheVariants as polled
use Rattle.fi_parts.specs.declared.errors.Fault.{Fault}
use Rattle.fi_parts.specs.declared.errors.Fault.TheVariants.{NoMemory, NoSlot}
use Rattle.fi_parts.specs.Machine.{phase_at}
use Rattle.fi_run.specs.declared.answer.Answer.{Answer}
use Rattle.fi_run.specs.declared.answer.Answer.TheVariants.{Made, Pending, Ready, Done, Flag, Woken, Refused}
use Rattle.fi_run.specs.declared.event.EventCall.{EventCall}
use Rattle.fi_run.specs.declared.event.EventCall.TheVariants.{Wait, Poll, Cancel, Set, Reset, IsSet, NextWake}
use Rattle.fi_run.specs.Run.{AfterEveryRun}
use Rattle.fi_channels.specs.Event.{EventMachine, opened, can_be_polled, Makes, Polls, Cancels, Sets, Resets, Wakes}
use Rattle.fi_channels.specs.Event.{IsSound, OwesNoWake}

module _ {W : Type 0} where
  -- when a call may be refused with this fault
  abbrev pub MayRefuse : EventMachine W → EventCall W → Fault → Type 0
  MayRefuse old Wait NoMemory = Unit {0}
  MayRefuse old (Poll slot waker) NoSlot = can_be_polled (phase_at old slot.0) ≡ false
  MayRefuse old (Cancel slot) NoSlot = phase_at old slot.0 ≡ None
  MayRefuse old call fault = ⊥

  -- From old, an event may give this answer to the call and go on to new.
  abbrev pub Step : EventMachine W → EventCall W → Answer ℕ W → EventMachine W → Type 0
  Step old call (Refused fault) new = MayRefuse old call fault × (new ≡ old)
  Step old Wait (Made slot) new = Makes old slot.0 new
  Step old (Poll slot waker) Ready new = Polls old slot.0 waker (polled.Ready tt) new
  Step old (Poll slot waker) Pending new = Polls old slot.0 waker polled.Pending new
  Step old (Cancel slot) Done new = Cancels old slot.0 new
  Step old Set Done new = Sets old new
  Step old Reset Done new = Resets old new
  Step old IsSet (Flag flag) new = (flag ≡ old.own) × (new ≡ old)
  Step old NextWake (Woken waker) new = Wakes old waker new
  Step old call answer new = ⊥

  abbrev pub Opens : Bool → EventMachine W → Type 0
  Opens flag state = state ≡ opened flag

  -- This holds after every run of an event from a state that is sound and owes no wake: of that state, the history since, and the
  -- state at the end.
  abbrev pub InEveryRun : (EventMachine W → List (EventCall W × Answer ℕ W) → EventMachine W → Type 0) → Type 0
  InEveryRun holds = AfterEveryRun IsSound OwesNoWake Step holds
