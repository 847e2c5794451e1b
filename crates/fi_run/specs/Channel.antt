-- The channel's machine as a table of calls and answers.
use Rattle.std.specs.Prelude.{◌≡◌, ℕ, List, true, false, None, Some, Ok, Err}
use Rattle.futures.specs.declared.task.Poll.TheVariants as polled
use Rattle.fi_parts.specs.declared.errors.CloseStatus.TheVariants.{NewlyClosed, AlreadyClosed}
use Rattle.fi_parts.specs.declared.errors.Fault.{Fault}
use Rattle.fi_parts.specs.declared.errors.Fault.TheVariants.{NoMemory, NoSlot, Closed, Full, Empty}
use Rattle.fi_parts.specs.declared.phase.Phase.TheVariants.{Fresh}
use Rattle.fi_parts.specs.Buffer.{Fits, empty}
use Rattle.fi_channels.specs.declared.channel.errors.SendFault.TheVariants as send_fault
use Rattle.fi_channels.specs.declared.channel.errors.TrySendError.TheVariants as not_sent
use Rattle.fi_channels.specs.declared.channel.fields.ReceiveKind.TheVariants as kinds
use Rattle.fi_channels.specs.Channel.{MakesSend, MakesReceive, PollsSend, PollsReceive, PollsNext, CancelsSend}
use Rattle.fi_channels.specs.Channel.{CancelsReceive, TriesSend, TriesReceive, Closes, Wakes, IsSound, OwesNoWake}
use Rattle.fi_channels.specs.ChannelWords.{ChannelMachine, opened, can_send, can_receive, can_stream, IsGrowing}
use Rattle.fi_channels.specs.ChannelWords.{send_phase, receive_phase, kind_of, next_of}
use Rattle.fi_run.specs.Run.{AfterEveryRun}
use Rattle.fi_run.specs.declared.answer.Answer.{Answer}
use Rattle.fi_run.specs.declared.answer.Answer.TheVariants.{Made, Pending, Item, Nothing, End, Done, Newly, Already, Woken}
use Rattle.fi_run.specs.declared.answer.Answer.TheVariants.{Back, Refused}
use Rattle.fi_run.specs.declared.channel.ChannelCall.{ChannelCall}
use Rattle.fi_run.specs.declared.channel.ChannelCall.TheVariants.{Send, Receive, Stream, PollSend, PollReceive, PollNext}
use Rattle.fi_run.specs.declared.channel.ChannelCall.TheVariants.{CancelSend, CancelReceive, TrySend, TryReceive, Close}
use Rattle.fi_run.specs.declared.channel.ChannelCall.TheVariants.{NextWake}

module _ {T W : Type 0} where
  -- a receive, or a stream, lives under this name that may be polled
  abbrev pub MayReceive : ChannelMachine T W → ℕ → Type 0
  MayReceive state name = can_receive (kind_of state name) (receive_phase state name) ≡ true

  abbrev pub MayStream : ChannelMachine T W → ℕ → Type 0
  MayStream state name = can_stream (kind_of state name) (receive_phase state name) ≡ true

  -- when a call may be refused with this fault
  abbrev pub MayRefuse : ChannelMachine T W → ChannelCall T W → Fault → Type 0
  MayRefuse old Receive NoMemory = Unit {0}
  MayRefuse old Stream NoMemory = Unit {0}
  MayRefuse old (PollSend slot waker) NoSlot = can_send (send_phase old slot.0) ≡ false
  -- a send that needs memory to store its value still owns it
  MayRefuse old (PollSend slot waker) NoMemory = (send_phase old slot.0 ≡ Some Fresh) × IsGrowing old.own
  -- a stream is no receive, and a receive no stream
  MayRefuse old (PollReceive slot waker) NoSlot = can_receive (kind_of old slot.0) (receive_phase old slot.0) ≡ false
  MayRefuse old (PollNext slot waker) NoSlot = can_stream (kind_of old slot.0) (receive_phase old slot.0) ≡ false
  MayRefuse old (CancelSend slot) NoSlot = send_phase old slot.0 ≡ None
  MayRefuse old (CancelReceive slot) NoSlot = receive_phase old slot.0 ≡ None
  MayRefuse old TryReceive Empty = (next_of old ≡ None) × (old.own.is_open ≡ true)
  MayRefuse old TryReceive Closed = (next_of old ≡ None) × (old.own.is_open ≡ false)
  MayRefuse old call fault = ⊥

  -- From old, a channel may give this answer to the call and go on to new.
  abbrev pub Step : ChannelMachine T W → ChannelCall T W → Answer T W → ChannelMachine T W → Type 0
  Step old call (Refused fault) new = MayRefuse old call fault × (new ≡ old)
  Step old (Send value) (Made slot) new = MakesSend old value slot.0 new
  Step old (Send value) (Back given NoMemory) new = (given ≡ value) × (new ≡ old)
  Step old Receive (Made slot) new = MakesReceive old kinds.Single slot.0 new
  Step old Stream (Made slot) new = MakesReceive old kinds.Stream slot.0 new
  Step old (PollSend slot waker) Pending new = PollsSend old slot.0 waker polled.Pending new
  Step old (PollSend slot waker) Done new = PollsSend old slot.0 waker (polled.Ready (Ok tt)) new
  Step old (PollSend slot waker) (Back value Closed) new =
      PollsSend old slot.0 waker (polled.Ready (Err (send_fault.Closed value))) new
  Step old (PollReceive slot waker) Pending new = MayReceive old slot.0 × PollsReceive old slot.0 waker polled.Pending new
  Step old (PollReceive slot waker) (Item value) new =
      MayReceive old slot.0 × PollsReceive old slot.0 waker (polled.Ready (Some value)) new
  Step old (PollReceive slot waker) Nothing new = MayReceive old slot.0 × PollsReceive old slot.0 waker (polled.Ready None) new
  Step old (PollNext slot waker) Pending new = MayStream old slot.0 × PollsNext old slot.0 waker polled.Pending new
  Step old (PollNext slot waker) (Item value) new =
      MayStream old slot.0 × PollsNext old slot.0 waker (polled.Ready (Some value)) new
  Step old (PollNext slot waker) End new = MayStream old slot.0 × PollsNext old slot.0 waker (polled.Ready None) new
  Step old (CancelSend slot) (Item value) new = CancelsSend old slot.0 (Some value) new
  Step old (CancelSend slot) Nothing new = CancelsSend old slot.0 None new
  Step old (CancelReceive slot) Done new = CancelsReceive old slot.0 new
  Step old (TrySend value) Done new = TriesSend old value (Ok tt) new
  Step old (TrySend value) (Back given Closed) new = TriesSend old value (Err (not_sent.Closed given)) new
  Step old (TrySend value) (Back given Full) new = TriesSend old value (Err (not_sent.Full given)) new
  Step old (TrySend value) (Back given NoMemory) new = (given ≡ value) × IsGrowing old.own × (new ≡ old)
  Step old TryReceive (Item value) new = TriesReceive old (Ok value) new
  Step old Close Newly new = Closes old NewlyClosed new
  Step old Close Already new = Closes old AlreadyClosed new
  Step old NextWake (Woken waker) new = Wakes old waker new
  Step old call answer new = ⊥

  -- the capacity, which the buffer may replace by its own
  abbrev pub Opens : (ℕ → ℕ) → ℕ → ChannelMachine T W → Type 0
  Opens capacity_for capacity state =
      (state ≡ opened (empty (capacity_for capacity) state.own.buffer.reserved)) × Fits state.own.buffer

  -- This holds after every run of a channel from a state that is sound and owes no wake: of that state, the history since, and the
  -- state at the end.
  abbrev pub InEveryRun : (ChannelMachine T W → List (ChannelCall T W × Answer T W) → ChannelMachine T W → Type 0) → Type 0
  InEveryRun holds = AfterEveryRun IsSound OwesNoWake Step holds
