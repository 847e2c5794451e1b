-- The state broadcast's machine as a table of calls and answers.
use Rattle.std.specs.Prelude.{◌≡◌, ⊤, List, false, None, Some, Ok, Err}
use Rattle.futures.specs.declared.task.Poll.TheVariants as polled
use Rattle.fi_parts.specs.declared.errors.CloseStatus.TheVariants.{NewlyClosed, AlreadyClosed}
use Rattle.fi_parts.specs.declared.errors.Fault.{Fault}
use Rattle.fi_parts.specs.declared.errors.Fault.TheVariants.{NoMemory, NoSlot, Closed}
use Rattle.fi_parts.specs.Machine.{phase_at}
use Rattle.fi_channels.specs.Oneshot.{can_receive}
use Rattle.fi_channels.specs.StateBroadcast.{StateMachine, opened, newer_than, newer_at, MayLackClone, MayLackNewer}
use Rattle.fi_channels.specs.StateBroadcast.{Makes, Polls}
use Rattle.fi_channels.specs.StateBroadcast.{TriesReceive, Cancels, Sends, Closes, Wakes, IsSound, OwesNoWake}
use Rattle.fi_run.specs.Run.{AfterEveryRun}
use Rattle.fi_run.specs.declared.answer.Answer.{Answer}
use Rattle.fi_run.specs.declared.answer.Answer.TheVariants.{Made, Pending, State, Nothing, Done, Newly, Already, Woken, Back, Refused}
use Rattle.fi_run.specs.declared.state.StateCall.{StateCall}
use Rattle.fi_run.specs.declared.state.StateCall.TheVariants.{Receive, Poll, Cancel, TryReceive, Send, Close, NextWake}

module _ {T W : Type 0} where
  -- when a call may be refused with this fault
  abbrev pub MayRefuse : (T → Type 0) → StateMachine T W → StateCall T W → Fault → Type 0
  MayRefuse is_infallible old (Receive asked) NoMemory = ⊤
  MayRefuse is_infallible old (Poll slot waker) NoSlot = can_receive (phase_at old slot.0) ≡ false
  MayRefuse is_infallible old (Poll slot waker) NoMemory = MayLackClone is_infallible (phase_at old slot.0) (newer_at old slot.0)
  MayRefuse is_infallible old (Cancel slot) NoSlot = phase_at old slot.0 ≡ None
  MayRefuse is_infallible old (TryReceive asked) NoMemory = MayLackNewer is_infallible (newer_than old.own asked)
  MayRefuse is_infallible old call fault = ⊥

  -- From old, a state broadcast may give this answer to the call and go on to new.
  abbrev pub Step : (T → T → Type 0) → (T → Type 0) → StateMachine T W → StateCall T W → Answer T W → StateMachine T W → Type 0
  Step is_clone is_infallible old call (Refused fault) new = MayRefuse is_infallible old call fault × (new ≡ old)
  Step is_clone is_infallible old (Receive asked) (Made slot) new = Makes old asked slot.0 new
  Step is_clone is_infallible old (Poll slot waker) Pending new = Polls is_clone old slot.0 waker polled.Pending new
  Step is_clone is_infallible old (Poll slot waker) (State id value) new =
      Polls is_clone old slot.0 waker (polled.Ready (Some (id, value))) new
  Step is_clone is_infallible old (Poll slot waker) Nothing new = Polls is_clone old slot.0 waker (polled.Ready None) new
  Step is_clone is_infallible old (Cancel slot) Done new = Cancels old slot.0 new
  Step is_clone is_infallible old (TryReceive asked) (State id value) new = TriesReceive is_clone old asked (Some (id, value)) × (new ≡ old)
  Step is_clone is_infallible old (TryReceive asked) Nothing new = TriesReceive is_clone old asked None × (new ≡ old)
  Step is_clone is_infallible old (Send value) Done new = Sends old value (Ok tt) new
  Step is_clone is_infallible old (Send value) (Back given Closed) new = (given ≡ value) × Sends old value (Err (record { 0 = value })) new
  Step is_clone is_infallible old Close Newly new = Closes old NewlyClosed new
  Step is_clone is_infallible old Close Already new = Closes old AlreadyClosed new
  Step is_clone is_infallible old NextWake (Woken waker) new = Wakes old waker new
  Step is_clone is_infallible old call answer new = ⊥

  abbrev pub Opens : Unit {0} → StateMachine T W → Type 0
  Opens opening state = state ≡ opened

  -- This holds after every run of a state broadcast whose values are cloned so, from a state that is sound and owes no wake: of that
  -- state, the history since, and the state at the end.
  abbrev pub InEveryRun : (T → T → Type 0) → (T → Type 0)
      → (StateMachine T W → List (StateCall T W × Answer T W) → StateMachine T W → Type 0) → Type 0
  InEveryRun is_clone is_infallible holds = AfterEveryRun IsSound OwesNoWake (Step is_clone is_infallible) holds
