use Rattle.std.proofs.Common.{rules, inl, Option, Err}
use Rattle.futures.specs.declared.task.waker.Waker.{Waker}
use Rattle.fi_channels.specs.Channel as channel
use Rattle.fi_channels.specs.ChannelWords.{ChannelMachine, can_receive, kind_of, receive_phase}
use Rattle.fi_channels.specs.Polled.{Answered}
use Rattle.fi_parts.specs.declared.errors.Fault.{Fault}
use Rattle.fi_sync.specs.Received.{PollsReceive}
use Rattle.fi_sync.proofs.Answered.{waited_for}
use Rattle.futures_intrusive.proofs.Given.{given_at_state}
use Rattle.futures_intrusive.proofs.channel_ends.GenericReceiver+T+B+R.receive_blocking.Goals as goal

pub returns-in-Err-Closed : goal.returns-in-Err-Closed
returns-in-Err-Closed g c =
    record { waited = inl (c.try_receive.ensures.tried.0, c.try_receive.ensures.tried.1, search rules) }

pub returns : goal.returns
returns g c = record {
  waited = waited_for _ PollsReceive c.in_ok-wait_for.field-0
      (given_at_state (λ (state : ChannelMachine g.row.T.Denot (Option Waker)) name.
      can_receive (kind_of state name) (receive_phase state name))
      (λ old name waker answer new. Answered (channel.PollsReceive old name waker) (λ fault state. ⊥) answer new)
      (Err Fault.NoSlot) (Err Fault.NoMemory) c.in_ok-wait_for.field-0 c.in_ok-wait_for.ensures.given);
}
