use Rattle.fi_sync.specs.Granted.{PollsAcquire}
use Rattle.fi_sync.proofs.Answered.{waited_for}
use Rattle.fi_sync.proofs.semaphore.Semaphore.acquire_blocking.Goals as goal

pub returns : goal.returns
returns g c = record { waited = waited_for _ PollsAcquire c.in_ok-wait_for.field-0 c.in_ok-wait_for.ensures.given }
