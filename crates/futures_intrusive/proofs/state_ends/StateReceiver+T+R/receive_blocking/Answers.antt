use Rattle.std.proofs.Common.{rules, inl, Option, Err}
use Rattle.futures.specs.declared.task.waker.Waker.{Waker}
use Rattle.fi_channels.specs.Oneshot as oneshot
use Rattle.fi_channels.specs.Polled.{Answered}
use Rattle.fi_channels.specs.StateBroadcast as state
use Rattle.fi_parts.specs.Machine.{phase_at}
use Rattle.fi_parts.specs.declared.errors.Fault.{Fault}
use Rattle.fi_sync.specs.Received.{PollsState}
use Rattle.fi_sync.proofs.Answered.{waited_for}
use Rattle.futures_intrusive.proofs.Given.{given_at_state}
use Rattle.futures_intrusive.proofs.state_ends.StateReceiver+T+R.receive_blocking.Goals as goal

pub returns-in-Some : goal.returns-in-Some
returns-in-Some g c = record { waited = inl (c.in_ok-state.ensures.tried.0, search rules) }

pub returns : goal.returns
returns g c =
    let is_clone = g.T.Clone.is_clone in
    let is_infallible = g.T.Clone.is_infallible in
    record {
      waited = waited_for _ (PollsState is_clone is_infallible) c.in_ok-wait_for.field-0
          (given_at_state (λ (held : state.StateMachine g.row.T.Denot (Option Waker)) name. oneshot.can_receive (phase_at held name))
          (λ old name waker answer new. Answered (state.Polls is_clone old name waker) (state.LacksClone is_infallible old name) answer new)
          (Err Fault.NoSlot) (Err Fault.NoMemory) c.in_ok-wait_for.field-0 c.in_ok-wait_for.ensures.given);
    }
