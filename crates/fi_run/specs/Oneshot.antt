-- The machine of the two channels of one value as a table of calls and answers.
use Rattle.std.specs.Prelude.{◌≡◌, ⊤, List, false, None, Some, Ok, Err}
use Rattle.futures.specs.declared.task.Poll.TheVariants as polled
use Rattle.fi_parts.specs.declared.errors.CloseStatus.TheVariants.{NewlyClosed, AlreadyClosed}
use Rattle.fi_parts.specs.declared.errors.Fault.{Fault}
use Rattle.fi_parts.specs.declared.errors.Fault.TheVariants.{NoMemory, NoSlot, Closed}
use Rattle.fi_parts.specs.Machine.{phase_at}
use Rattle.fi_channels.specs.Oneshot.{OneshotMachine, Giving, opened, can_receive, MayLack, MayRefuseNow, Makes, Polls, Cancels}
use Rattle.fi_channels.specs.Oneshot.{TriesReceive, Sends, Closes, Wakes}
use Rattle.fi_channels.specs.Oneshot.{IsSound, OwesNoWake}
use Rattle.fi_run.specs.Run.{AfterEveryRun}
use Rattle.fi_run.specs.declared.answer.Answer.{Answer}
use Rattle.fi_run.specs.declared.answer.Answer.TheVariants.{Made, Pending, Item, Nothing, Done, Newly, Already, Woken, Back, Refused}
use Rattle.fi_run.specs.declared.oneshot.OneshotCall.{OneshotCall}
use Rattle.fi_run.specs.declared.oneshot.OneshotCall.TheVariants.{Receive, Poll, Cancel, TryReceive, Send, Close, NextWake}

module _ {T W : Type 0} where
  -- when a call on a channel that gives its value so may be refused with this fault
  abbrev pub MayRefuse : Giving T → OneshotMachine T W → OneshotCall T W → Fault → Type 0
  MayRefuse giving old Receive NoMemory = ⊤
  MayRefuse giving old (Poll slot waker) NoSlot = can_receive (phase_at old slot.0) ≡ false
  MayRefuse giving old (Poll slot waker) NoMemory = MayLack giving (phase_at old slot.0) old.own
  MayRefuse giving old (Cancel slot) NoSlot = phase_at old slot.0 ≡ None
  MayRefuse giving old TryReceive fault = MayRefuseNow giving old.own fault
  MayRefuse giving old call fault = ⊥

  -- From old, a channel that gives its value so may give this answer to the call and go on to new.
  abbrev pub Step : Giving T → OneshotMachine T W → OneshotCall T W → Answer T W → OneshotMachine T W → Type 0
  Step giving old call (Refused fault) new = MayRefuse giving old call fault × (new ≡ old)
  Step giving old Receive (Made slot) new = Makes old slot.0 new
  Step giving old (Poll slot waker) Pending new = Polls giving old slot.0 waker polled.Pending new
  Step giving old (Poll slot waker) (Item value) new = Polls giving old slot.0 waker (polled.Ready (Some value)) new
  Step giving old (Poll slot waker) Nothing new = Polls giving old slot.0 waker (polled.Ready None) new
  Step giving old (Cancel slot) Done new = Cancels old slot.0 new
  Step giving old TryReceive (Item value) new = TriesReceive giving old (Ok (Some value)) new
  Step giving old TryReceive Nothing new = TriesReceive giving old (Ok None) new
  Step giving old (Send value) Done new = Sends old value (Ok tt) new
  Step giving old (Send value) (Back given Closed) new = (given ≡ value) × Sends old value (Err (record { 0 = value })) new
  Step giving old Close Newly new = Closes old NewlyClosed new
  Step giving old Close Already new = Closes old AlreadyClosed new
  Step giving old NextWake (Woken waker) new = Wakes old waker new
  Step giving old call answer new = ⊥

  abbrev pub Opens : Unit {0} → OneshotMachine T W → Type 0
  Opens opening state = state ≡ opened

  -- This holds after every run of a channel that gives its value so, from a state that is sound and owes no wake: of that state, the
  -- history since, and the state at the end.
  abbrev pub InEveryRun : Giving T → (OneshotMachine T W → List (OneshotCall T W × Answer T W) → OneshotMachine T W → Type 0) → Type 0
  InEveryRun giving holds = AfterEveryRun IsSound OwesNoWake (Step giving) holds
