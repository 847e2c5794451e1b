-- What a receive from a channel answers, among threads.
use Rattle.std.specs.Prelude.{ℕ, Option, Some, None, Result, Ok, Err}
use Rattle.futures.specs.declared.task.Poll.{Poll}
use Rattle.futures.specs.declared.task.waker.Waker.{Waker}
use Rattle.fi_channels.specs.Channel as channel
use Rattle.fi_channels.specs.Channel.{TriesReceive}
use Rattle.fi_channels.specs.ChannelWords.{ChannelMachine, can_receive, kind_of, receive_phase}
use Rattle.fi_channels.specs.Oneshot as oneshot
use Rattle.fi_channels.specs.Oneshot.{Giving, OneshotMachine}
use Rattle.fi_channels.specs.Polled.{Answered}
use Rattle.fi_channels.specs.StateBroadcast as state
use Rattle.fi_channels.specs.StateBroadcast.{StateMachine}
use Rattle.fi_channels.specs.declared.channel.errors.TryReceiveError.TheVariants as not_received
use Rattle.fi_channels.specs.declared.channel.errors.TryReceiveError.{TryReceiveError}
use Rattle.fi_parts.specs.Machine.{phase_at}
use Rattle.fi_parts.specs.declared.errors.Fault.{Fault}
use Rattle.fi_sync.specs.Waiting.{InSomeHold, PollsOrRefuses}

module _ {T : Type 0} where
  -- a receive at once that got a value, or found the channel closed and empty
  abbrev pub at_once : Option T → Result T TryReceiveError
  at_once (Some value) = Ok value
  at_once None = Err not_received.Closed

  -- Some hold of the lock answered a receive at once so: a value, or that the channel is closed and empty.
  abbrev pub ReceivesAtOnce : Option T → Type 0
  ReceivesAtOnce received = InSomeHold (λ old. TriesReceive {W = Option Waker} old (at_once received))

  -- A poll of a receive under this name may answer this and go on from old to new.
  abbrev pub PollsReceive : ChannelMachine T (Option Waker) → ℕ → Option Waker → Poll (Result (Option T) Fault)
      → ChannelMachine T (Option Waker) → Type 0
  PollsReceive = PollsOrRefuses (λ state name. can_receive (kind_of state name) (receive_phase state name))
      (λ old name waker answer new. Answered (channel.PollsReceive old name waker) (λ fault state. ⊥) answer new) (Err Fault.NoSlot)

  -- Some hold of the lock answered a receive at once from a channel of one value, which gives it so, with this.
  abbrev pub TakesAtOnce : Giving T → Option T → Type 0
  TakesAtOnce giving received = InSomeHold (λ old. oneshot.TriesReceive {W = Option Waker} giving old (Ok received))

  -- The same as PollsReceive of a channel that takes one value, and gives it so.
  abbrev pub PollsOneValue : Giving T → OneshotMachine T (Option Waker) → ℕ → Option Waker → Poll (Result (Option T) Fault)
      → OneshotMachine T (Option Waker) → Type 0
  PollsOneValue giving = PollsOrRefuses (λ state name. oneshot.can_receive (phase_at state name))
      (λ old name waker answer new. Answered (oneshot.Polls giving old name waker) (oneshot.Lacks giving old name) answer new)
      (Err Fault.NoSlot)

  -- The same of a broadcast of states, whose clones are these and fail or not.
  abbrev pub PollsState : (T → T → Type 0) → (T → Type 0) → StateMachine T (Option Waker) → ℕ → Option Waker
      → Poll (Result (Option (ℕ × T)) Fault) → StateMachine T (Option Waker) → Type 0
  PollsState is_clone is_infallible = PollsOrRefuses (λ state name. oneshot.can_receive (phase_at state name))
      (λ old name waker answer new. Answered (state.Polls is_clone old name waker) (state.LacksClone is_infallible old name) answer new)
      (Err Fault.NoSlot)
