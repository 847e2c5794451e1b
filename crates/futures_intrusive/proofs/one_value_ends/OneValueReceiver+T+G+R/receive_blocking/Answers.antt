use Rattle.std.proofs.Common.{Option, Err}
use Rattle.futures.specs.declared.task.waker.Waker.{Waker}
use Rattle.fi_channels.specs.Oneshot as oneshot
use Rattle.fi_channels.specs.Polled.{Answered}
use Rattle.fi_parts.specs.Machine.{phase_at}
use Rattle.fi_parts.specs.declared.errors.Fault.{Fault}
use Rattle.fi_sync.specs.Received.{PollsOneValue}
use Rattle.fi_sync.proofs.Answered.{waited_for}
use Rattle.futures_intrusive.proofs.Given.{given_at_state}
use Rattle.futures_intrusive.proofs.one_value_ends.OneValueReceiver+T+G+R.receive_blocking.Goals as goal

pub returns : goal.returns
returns g c =
    let giving = g.G.GivesValue.giving in
    record {
      waited = waited_for _ (PollsOneValue giving) c.in_ok-wait_for.field-0
          (given_at_state (λ (state : oneshot.OneshotMachine g.row.T.Denot (Option Waker)) name. oneshot.can_receive (phase_at state name))
          (λ old name waker answer new. Answered (oneshot.Polls giving old name waker) (oneshot.Lacks giving old name) answer new)
          (Err Fault.NoSlot) (Err Fault.NoMemory) c.in_ok-wait_for.field-0 c.in_ok-wait_for.ensures.given);
    }
