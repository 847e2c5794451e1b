use Rattle.std.proofs.Common.{rules, ◌≡◌, subst, Option, IfNone}
use Rattle.futures.specs.declared.task.waker.Waker.{Waker}
use Rattle.fi_channels.specs.Event.{can_be_polled, Polls}
use Rattle.fi_sync.specs.Waiting.{PollsAt, WouldWait}
use Rattle.futures_intrusive.proofs.closed.CountedEndsPollSlotClosedWait.poll_slot.Goals as goal

pub returns-clause-put_off : goal.returns-clause-put_off
returns-clause-put_off g c =
    let own : c.self.inside.closed ≡ c.args.self.now.closed = search rules in
    subst (λ event. IfNone c.poll_slot.result (WouldWait (PollsAt can_be_polled (Polls {W = Option Waker})) event c.args.slot.0)) own
    c.poll_slot.ensures.put_off
