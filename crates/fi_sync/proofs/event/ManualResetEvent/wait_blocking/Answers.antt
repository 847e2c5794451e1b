use Rattle.std.proofs.Common.{rules, Option, inl}
use Rattle.futures.specs.declared.task.waker.Waker.{Waker}
use Rattle.fi_channels.specs.Event.{can_be_polled, Polls}
use Rattle.fi_sync.specs.Waiting.{PollsAt}
use Rattle.fi_sync.proofs.Answered.{waited_for}
use Rattle.fi_sync.proofs.event.ManualResetEvent.wait_blocking.Goals as goal

pub returns-then-is_set : goal.returns-then-is_set
returns-then-is_set g c = record { waited = inl (c.is_set.ensures.shown.0, search rules) }

pub returns : goal.returns
returns g c =
    record { waited = waited_for _ (PollsAt can_be_polled (Polls {W = Option Waker})) c.in_ok-wait_for.field-0 c.in_ok-wait_for.ensures.given }
