use Rattle.std.proofs.Common.{rules, inl}
use Rattle.fi_sync.specs.Granted.{PollsAcquire}
use Rattle.fi_sync.proofs.Answered.{waited_for}
use Rattle.fi_sync.proofs.semaphore.shared.SharedSemaphore.acquire_blocking.Goals as goal

pub returns-in-Some : goal.returns-in-Some
returns-in-Some g c =
    record { waited = inl (search rules, (c.in_ok-releaser.ensures.tried.0, c.in_ok-releaser.ensures.tried.1, search rules)) }

pub returns : goal.returns
returns g c = record { waited = waited_for _ PollsAcquire c.in_ok-wait_for.field-0 c.in_ok-wait_for.ensures.given }
