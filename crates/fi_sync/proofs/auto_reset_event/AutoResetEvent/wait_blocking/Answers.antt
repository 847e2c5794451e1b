use Rattle.std.proofs.Common.{rules, Option, inl}
use Rattle.futures.specs.declared.task.waker.Waker.{Waker}
use Rattle.fi_locks.specs.Mutex.{can_be_polled, Polls}
use Rattle.fi_sync.specs.Waiting.{PollsAt}
use Rattle.fi_sync.proofs.Answered.{waited_for}
use Rattle.fi_sync.proofs.auto_reset_event.AutoResetEvent.wait_blocking.Goals as goal

pub returns-then-try_wait : goal.returns-then-try_wait
returns-then-try_wait g c = record { waited = inl (c.try_wait.ensures.tried.0, c.try_wait.ensures.tried.1, search rules) }

pub returns : goal.returns
returns g c =
    record { waited = waited_for _ (PollsAt can_be_polled (Polls {W = Option Waker})) c.in_ok-wait_for.field-0 c.in_ok-wait_for.ensures.given }
